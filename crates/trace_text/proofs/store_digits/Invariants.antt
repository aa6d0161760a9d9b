-- `trace_text::store_digits` meets its contract: to write the digits of what is left comes to writing all of them. Assumes nothing.
use Prim.Native.Nat.{◌+◌, ◌≤◌}
use mathlib.Core.Path.{◌≡◌}
use lib.ListN.{length}
use Rattle.trace_text.specs.Text.{spelled, written}
use Rattle.trace_text.proofs.store_digits.Given as goal

abbrev pub invariant-loop-left : goal.invariant-loop-left
invariant-loop-left l =
    (l.left ≤ l.n)
    × (l.place ≡ l.at + length (spelled l.base l.nought l.left))
    × (l.place ≤ length l.out)
    × (length l.out ≡ length l.initial.out)
    × (written l.at (spelled l.base l.nought l.left) l.out ≡ written l.at (spelled l.base l.nought l.n) l.initial.out)

abbrev pub decreases-loop-left : goal.decreases-loop-left
decreases-loop-left l = l.left
