-- `confidential_vm_setup::hart_at_setup` meets its contract: the boot hart's number decides. Assumes nothing.
use Rattle.table_rows.proofs.PickLaws.{yes, no, tests}
use Rattle.confidential_vm_setup.proofs.hart_at_setup.Goals as goal

pub returns-then-h-setup : goal.returns-then-h-setup
returns-then-h-setup c = yes _ (search tests) c.from_vm_hart.ensures

pub returns : goal.returns
returns c = no _ (search tests) c.from_vm_hart_reset.ensures
