-- `confidential_vm_setup::write` meets its contract: each table is written by its own function. Assumes nothing.
use Rattle.monitor_requests.specs.Tables.{tables}
use Rattle.confidential_vm_setup.proofs.write.Goals as goal

pub returns : goal.returns
returns c =
    λ i. tables (c.set_head.ensures i) (c.set_home.ensures i) (c.set_hardware.ensures i) (c.clear_front.ensures i)
    (c.clear_front-2.ensures i)
