-- `confidential_vm_setup::set_home` meets its contract: the rows passed hold their harts, the rest is as it was. Assumes nothing.
use mathlib.Core.Path.{◌≡◌}
use lib.ListN.{length}
use Rattle.monitor_requests.specs.Requests.{setup_hart}
use Rattle.confidential_vm_setup.proofs.WriteLaws.{harts}
use Rattle.confidential_vm_setup.proofs.set_home.Given as goal

abbrev pub invariant-loop-h : goal.invariant-loop-h
invariant-loop-h l = (length l.home ≡ length l.initial.home) × (l.home ≡ harts (setup_hart l.setup) l.h l.initial.home)
