-- `trace_text::put_numbers` meets its contract: the numbers passed are put, and the rest is to be put after them. Assumes nothing.
use borrow.Author.Rules.{rules}
use native.Mathlib.Omega.{arith}
use Rattle.trace_text.proofs.SpelledLaws.{numbers_next}
use Rattle.trace_text.proofs.WriteLaws.{left_next}
use Rattle.trace_text.proofs.put_numbers.Goals as goal

pub loop-n-preserved : goal.loop-n-preserved
loop-n-preserved c =
    let next = numbers_next c.args.ns.now c.loop-n.n-index (omega arith) in
    (search rules, search rules, left_next (omega arith) (rw next at c.loop-n.invariant.2) c.put_field-place.ensures)
