-- `monitor_exports::oudrameng_new` meets its contract: the entry's answer, by its number. Assumes nothing.
use Rattle.export_values.proofs.ExportLaws.{number_told}
use Rattle.monitor_exports.proofs.oudrameng_new.Goals as goal

pub returns : goal.returns
returns c = number_told c.new.ensures c.number.ensures
