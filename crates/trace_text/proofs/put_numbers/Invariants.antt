-- `trace_text::put_numbers` meets its contract: the numbers passed are put, and the rest is to be put after them. Assumes nothing.
use Prim.Native.Nat.{◌≤◌}
use mathlib.Core.Path.{◌≡◌}
use lib.ListN.{length, drop}
use Rattle.trace_text.specs.Text.{numbers}
use Rattle.trace_text.proofs.WriteLaws.{Left}
use Rattle.trace_text.proofs.put_numbers.Given as goal

abbrev pub invariant-loop-n : goal.invariant-loop-n
invariant-loop-n l =
    (l.n-index ≤ length l.ns) × (length l.out ≡ length l.initial.out) × Left l.at (numbers l.ns) l.initial.out l.place (numbers (drop l.n-index l.ns)) l.out
