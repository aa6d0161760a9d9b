-- `confidential_vm_setup::set_head` meets its contract: four stores from the first word on. Assumes nothing.
use mathlib.Core.List.{[], ◌∷◌}
use lib.Seq.{sets-eq}
use Rattle.confidential_vm_setup.proofs.set_head.Goals as goal

pub returns : goal.returns
returns c = sets-eq (c.args.n ∷ c.args.m ∷ 0 ∷ 0 ∷ []) c.args.head.now 0 c.requires
