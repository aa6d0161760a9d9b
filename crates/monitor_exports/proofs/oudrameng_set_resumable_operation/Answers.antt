-- `monitor_exports::oudrameng_set_resumable_operation` meets its contract: the entry's answer, by its number. Assumes nothing.
use Rattle.export_values.proofs.ExportLaws.{number_told}
use Rattle.monitor_exports.proofs.oudrameng_set_resumable_operation.Goals as goal

pub returns : goal.returns
returns c = number_told c.set_resumable_operation.ensures c.number.ensures
