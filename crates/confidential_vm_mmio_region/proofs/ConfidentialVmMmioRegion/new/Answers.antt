-- `confidential_vm_mmio_region::ConfidentialVmMmioRegion::new` meets its contract. Assumes nothing.
use Rattle.std.proofs.Common.{rules}
use Rattle.table_rows.specs.Choice.{pick}
use Rattle.confidential_vm_mmio_region.specs.Region.{new_region}
use Rattle.confidential_vm_mmio_region.proofs.ConfidentialVmMmioRegion.new.Goals as goal

pub returns-in_err-end : goal.returns-in_err-end
unfolding new_region pick
returns-in_err-end c = search rules

pub returns : goal.returns
unfolding new_region pick
returns c = search rules
