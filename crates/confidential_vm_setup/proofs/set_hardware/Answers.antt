-- `confidential_vm_setup::set_hardware` meets its contract: the rows passed hold their dummies, the rest is as it was. Assumes nothing.
use mathlib.Core.Path.{refl}
use borrow.Author.Rules.{rules}
use Rattle.confidential_vm_setup.proofs.WriteLaws.{harts_none, harts_next, harts_done}
use Rattle.confidential_vm_setup.proofs.set_hardware.Goals as goal

pub loop-k-init : goal.loop-k-init
loop-k-init c = (refl, harts_none _ _)

pub loop-k-preserved : goal.loop-k-preserved
loop-k-preserved c =
    (search rules, harts_next _ _ c.loop-k.invariant.1 c.dummy-dummy.ensures c.store.ensures)

pub returns : goal.returns
returns c = harts_done _ _ c.loop-k.invariant.1 (search rules) (search rules)
