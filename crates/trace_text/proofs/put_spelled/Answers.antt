-- `trace_text::put_spelled` meets its contract: as many digits are stored as were counted. Assumes nothing.
use native.Mathlib.Omega.{arith}
use Rattle.trace_text.proofs.SpelledLaws.{count_alike}
use Rattle.trace_text.proofs.put_spelled.Goals as goal

pub overflow_add-end : goal.overflow_add-end
overflow_add-end c =
    omega (arith, count_alike c.args.base 0 c.args.nought 20 c.args.n)

pub store_digits-requires : goal.store_digits-requires
store_digits-requires c =
    let same = count_alike c.args.base 0 c.args.nought 20 c.args.n in
    (c.requires.0, c.requires.1, omega arith, omega arith)

pub returns : goal.returns
returns c =
    record {
      ends = omega (arith, count_alike c.args.base 0 c.args.nought 20 c.args.n);
      leaves = c.store_digits.ensures;
    }
