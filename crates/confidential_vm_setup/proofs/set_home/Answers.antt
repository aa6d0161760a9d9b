-- `confidential_vm_setup::set_home` meets its contract: the rows passed hold their harts, the rest is as it was. Assumes nothing.
use mathlib.Core.Path.{refl}
use borrow.Author.Rules.{rules}
use Rattle.confidential_vm_setup.proofs.WriteLaws.{harts_none, harts_next, harts_done}
use Rattle.confidential_vm_setup.proofs.set_home.Goals as goal

pub loop-h-init : goal.loop-h-init
loop-h-init c = (refl, harts_none _ _)

pub loop-h-preserved : goal.loop-h-preserved
loop-h-preserved c =
    (search rules, harts_next _ _ c.loop-h.invariant.1 c.hart_at_setup.ensures c.store.ensures)

pub returns : goal.returns
returns c = harts_done _ _ c.loop-h.invariant.1 (search rules) (search rules)
