-- `trace_text::store_digits` meets its contract: to write the digits of what is left comes to writing all of them. Assumes nothing.
use Prim.Native.Nat.{ℕ, ◌+◌, ◌-◌, ◌/◌, ◌%◌, ◌≤◌, ◌<◌}
use mathlib.Core.Path.{◌≡◌, refl, sym, ap, ◌∙◌}
use mathlib.Core.List.{List}
use native.Mathlib.Nat.{div-lt_self, div-le_self, mod-lt}
use native.Mathlib.Omega.{arith}
use lib.ListN.{length, set, length-set}
use Rattle.trace_text.specs.Text.{spelled, written}
use Rattle.trace_text.proofs.SpelledLaws.{digits_some, spelled_one, spelled_last, count_next}
use Rattle.trace_text.proofs.WriteLaws.{written_one, written_last}
use Rattle.trace_text.proofs.store_digits.Goals as goal

pub loop-left-init : goal.loop-left-init
loop-left-init c = (omega arith, c.requires.2, c.requires.3, refl, refl)

pub overflow_sub-place : goal.overflow_sub-place
overflow_sub-place c = omega (arith, digits_some c.args.base c.args.nought 19 c.loop-left.left)

-- a digit is below the base
digit_fits : (left base : ℕ) → 10 ≤ base → left % base < base
digit_fits left base ten = mod-lt left (omega arith)

pub overflow_cast-out : goal.overflow_cast-out
overflow_cast-out c = omega (arith, digit_fits c.loop-left.left c.args.base (omega arith))

pub overflow_add-out : goal.overflow_add-out
overflow_add-out c = omega (arith, digit_fits c.loop-left.left c.args.base (omega arith))

pub bounds-out-place : goal.bounds-out-place
bounds-out-place c = omega (arith, digits_some c.args.base c.args.nought 19 c.loop-left.left)

pub loop-left-smaller : goal.loop-left-smaller
loop-left-smaller c = div-lt_self (omega arith) (omega arith)

pub loop-left-preserved : goal.loop-left-preserved
loop-left-preserved c =
    let base = c.args.base in
    let nought = c.args.nought in
    let left = c.loop-left.left in
    let at = c.args.at in
    let out = c.loop-left.out in
    let high = spelled base nought (left / base) in
    let byte = nought + left % base in
    let next = count_next base nought c.requires.0 left (omega arith) (omega arith) in
    let before : c.loop-left.place - 1 ≡ at + length high = omega arith in (
      omega (arith, div-le_self left base),
      omega arith,
      simp length-set (omega arith),
      simp length-set (omega arith),
      ap (λ (p : ℕ). written at high (set out p byte)) before
          ∙ written_last at high byte out (omega arith)
          ∙ ap (λ (l : List ℕ). written at l out) (sym (spelled_last base nought c.requires.0 left (omega arith) (omega arith)))
          ∙ c.loop-left.invariant.4,
    )

pub bounds-out-at : goal.bounds-out-at
bounds-out-at c = omega (arith, digits_some c.args.base c.args.nought 19 c.loop-left.left)

pub returns : goal.returns
returns c =
    let at = c.args.at in
    let nought = c.args.nought in
    let left = c.loop-left.left in
    let out = c.loop-left.out in
    let one = spelled_one c.args.base nought c.requires.0 left (omega arith) (omega arith) in
    written_one at (nought + left) out (omega (arith, ap length one))
    ∙ ap (λ (l : List ℕ). written at l out) (sym one)
    ∙ c.loop-left.invariant.4
