-- `trace_answers::put_answer` meets its contract: the number, the word and the details are put one after the other. Assumes nothing.
use native.Mathlib.Omega.{arith}
use Prim.Native.Nat.{ℕ}
use mathlib.Core.List.{List}
use mathlib.Core.Path.{ap, ◌∙◌}
use lib.ListN.{length}
use Rattle.std.specs.Prelude.{Option}
use Rattle.monitor_requests.specs.declared.Word.{Word}
use Rattle.monitor_requests.specs.Answers.{Given}
use Rattle.trace_text.specs.Text.{decimal, numbers}
use Rattle.trace_text.proofs.WriteLaws.{put_as, put_then}
use Rattle.trace_answers.specs.Printed.{word_text, answer_line}
use Rattle.trace_answers.proofs.PrintedLaws.{answer_parts}
use Rattle.trace_answers.proofs.put_answer.Goals as goal

pub put_number-named-requires : goal.put_number-named-requires
put_number-named-requires c =
    let number = c.number.ensures ∙ ap (λ (g : Given). g.number) c.new-told.ensures in
    omega (arith, answer_parts c.args.answered, ap (λ (n : ℕ). length (decimal n)) number)

pub put_word_of-said-requires : goal.put_word_of-said-requires
put_word_of-said-requires c =
    let number = c.number.ensures ∙ ap (λ (g : Given). g.number) c.new-told.ensures in
    let word = c.word.ensures ∙ ap (λ (g : Given). g.word) c.new-told.ensures in
    omega (
      arith,
      answer_parts c.args.answered,
      ap (λ (n : ℕ). length (decimal n)) number,
      ap (λ (w : Option Word). length (word_text w)) word,
    )

pub put_numbers-requires : goal.put_numbers-requires
put_numbers-requires c =
    let number = c.number.ensures ∙ ap (λ (g : Given). g.number) c.new-told.ensures in
    let word = c.word.ensures ∙ ap (λ (g : Given). g.word) c.new-told.ensures in
    let details = c.details.ensures.same ∙ ap (λ (g : Given). g.details) c.new-told.ensures in
    omega (
      arith,
      answer_parts c.args.answered,
      ap (λ (n : ℕ). length (decimal n)) number,
      ap (λ (w : Option Word). length (word_text w)) word,
      ap (λ (ns : List ℕ). length (numbers ns)) details,
    )

pub returns : goal.returns
unfolding answer_line
returns c =
    let number = c.number.ensures ∙ ap (λ (g : Given). g.number) c.new-told.ensures in
    let word = c.word.ensures ∙ ap (λ (g : Given). g.word) c.new-told.ensures in
    let details = c.details.ensures.same ∙ ap (λ (g : Given). g.details) c.new-told.ensures in
    put_then (omega arith)
    (put_then (omega arith) (put_as (ap decimal number) c.put_number-named.ensures) (put_as (ap word_text word) c.put_word_of-said.ensures))
    (put_as (ap numbers details) c.put_numbers.ensures)
