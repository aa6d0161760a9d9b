-- `monitor_exports::oudrameng_remove_mmio_region` meets its contract: the entry's answer, by its number. Assumes nothing.
use Rattle.export_values.proofs.ExportLaws.{number_told}
use Rattle.monitor_exports.proofs.oudrameng_remove_mmio_region.Goals as goal

pub returns : goal.returns
returns c = number_told c.remove_mmio_region.ensures c.number.ensures
