-- `confidential_vm_remote_commands::deliver` meets its contract: what is left from here is what was left from the start. Assumes nothing.
use Prim.Native.Nat.{◌-◌}
use mathlib.Core.Path.{◌≡◌}
use lib.ListN.{length}
use Rattle.monitor_requests.specs.Requests.{deliver}
use Rattle.confidential_vm_remote_commands.proofs.deliver.Given as goal

abbrev pub invariant-loop-i : goal.invariant-loop-i
invariant-loop-i l =
    (length l.queues ≡ length l.initial.queues) × (deliver l.home l.sender l.c (l.n - l.i) l.i l.mask l.queues ≡ deliver l.home l.sender l.c l.n 0 0 l.initial.queues)
