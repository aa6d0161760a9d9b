-- `monitor_exports::oudrameng_stop_confidential_hart` meets its contract: the entry's answer, by its number. Assumes nothing.
use Rattle.export_values.proofs.ExportLaws.{number_told}
use Rattle.monitor_exports.proofs.oudrameng_stop_confidential_hart.Goals as goal

pub returns : goal.returns
returns c = number_told c.stop_confidential_hart.ensures c.number.ensures
