-- `monitor_exports::oudrameng_allow_external_interrupt` meets its contract: the entry's answer, by its number. Assumes nothing.
use Rattle.export_values.proofs.ExportLaws.{number_told}
use Rattle.monitor_exports.proofs.oudrameng_allow_external_interrupt.Goals as goal

pub returns : goal.returns
returns c = number_told c.allow_external_interrupt.ensures c.number.ensures
