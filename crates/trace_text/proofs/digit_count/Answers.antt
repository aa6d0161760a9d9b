-- `trace_text::digit_count` meets its contract: the digits counted and those of what is left are all. Assumes nothing.
use mathlib.Core.Path.{ap}
use native.Mathlib.Nat.{div-lt_self, div-le_self}
use native.Mathlib.Omega.{arith}
use lib.ListN.{length}
use Rattle.trace_text.proofs.SpelledLaws.{digits_most, spelled_one, count_next}
use Rattle.trace_text.proofs.digit_count.Goals as goal

pub loop-left-init : goal.loop-left-init
loop-left-init c = (omega arith, omega arith)

pub overflow_add-count : goal.overflow_add-count
overflow_add-count c = omega (arith, digits_most c.args.base 0 20 c.args.n)

pub loop-left-smaller : goal.loop-left-smaller
loop-left-smaller c = div-lt_self (omega arith) (omega arith)

pub loop-left-preserved : goal.loop-left-preserved
loop-left-preserved c =
    let left = c.loop-left.left in (
      omega (arith, div-le_self left c.args.base),
      omega (arith, count_next c.args.base 0 c.requires left (omega arith) (omega arith)),
    )

pub returns : goal.returns
returns c =
    omega (arith, ap length (spelled_one c.args.base 0 c.requires c.loop-left.left (omega arith) (omega arith)))
