-- `confidential_vm_setup::set_hardware` meets its contract: the rows passed hold their dummies, the rest is as it was. Assumes nothing.
use mathlib.Core.Path.{◌≡◌}
use lib.ListN.{length}
use Rattle.confidential_hart.specs.Hart.{dummy}
use Rattle.confidential_vm_setup.proofs.WriteLaws.{harts}
use Rattle.confidential_vm_setup.proofs.set_hardware.Given as goal

abbrev pub invariant-loop-k : goal.invariant-loop-k
invariant-loop-k l = (length l.hardware ≡ length l.initial.hardware) × (l.hardware ≡ harts dummy l.k l.initial.hardware)
