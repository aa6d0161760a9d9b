-- `trace_text::digit_count` meets its contract: the digits counted and those of what is left are all. Assumes nothing.
use Prim.Native.Nat.{◌+◌, ◌≤◌}
use mathlib.Core.Path.{◌≡◌}
use lib.ListN.{length}
use Rattle.trace_text.specs.Text.{spelled}
use Rattle.trace_text.proofs.digit_count.Given as goal

abbrev pub invariant-loop-left : goal.invariant-loop-left
invariant-loop-left l =
    (l.left ≤ l.n) × (l.count + length (spelled l.base 0 l.left) ≡ length (spelled l.base 0 l.n) + 1)

abbrev pub decreases-loop-left : goal.decreases-loop-left
decreases-loop-left l = l.left
