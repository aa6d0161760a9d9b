-- What is printed: its words, and that it fits in the room for it. Assumes nothing.
use Rattle.std.proofs.Common.{None, Some}
use Prim.Native.Nat.{ℕ, zero, suc, ◌+◌, ◌*◌, ◌≤◌, ◌<◌}
use mathlib.Core.Path.{◌≡◌, refl, sym, ap}
use mathlib.Core.Bool.{true, false, ◌&&◌}
use mathlib.Core.List.{List, [], ◌∷◌, ◌++◌}
use native.Mathlib.Nat.{zero-mul, suc-mul}
use native.Mathlib.Numerals.{add-one}
use native.Mathlib.Omega.{arith}
use lib.ListN.{length, drop, length-append, length-take}
use lib.Dec.{leb}
use borrow.Author.Tests.{leb-true, le-leb}
use Rattle.std.specs.Prelude.{None, Some}
use Rattle.std.specs.Option.{unwrap_or}
use Rattle.error.specs.Error.{done}
use Rattle.table_rows.specs.Choice.{pick}
use Rattle.table_rows.specs.Rows.{row, rows_of}
use Rattle.table_rows.proofs.PickLaws.{and_left, and_right, and_both}
use Rattle.remote_commands.specs.Queue.{max_commands}
use Rattle.effects.specs.Effects.{effect_words}
use Rattle.monitor_requests.specs.Answers.{Answered}
use Rattle.monitor_requests.specs.declared.Word.TheVariants.{Run, Off, Op}
use Rattle.monitor_requests.specs.Answers.{Given, gives, given}
use Rattle.monitor_requests.proofs.AnswerLaws.{by_given}
use Rattle.monitor_requests.specs.declared.Reply.{Reply}
use Rattle.trace_text.specs.Text.{bytes, tab, digits, decimal, word, numbers, line, line_end, Put, printing}
use Rattle.trace_text.proofs.SpelledLaws.{digits_most, numbers_most}
use Rattle.trace_text.proofs.WriteLaws.{put_none, put_as, put_then, print_put, print_none}
use Rattle.trace_answers.specs.Printed.{
  word_text,
  answer_line,
  did_line,
  printed,
  did_bytes,
  answer_bytes,
  most_printed,
  printable,
  printed_over,
}

-- ---- words

pub word_did : word 40904 ≡ bytes "did"
unfolding digits pick
word_did = refl

pub word_run : tab ∷ word 182114 ≡ word_text (Some Run)
unfolding digits pick
word_run = refl

pub word_off : tab ∷ word 150606 ≡ word_text (Some Off)
unfolding digits pick
word_off = refl

pub word_op : tab ∷ word 1516 ≡ word_text (Some Op)
unfolding digits pick
word_op = refl

-- ---- room

-- 0 has one digit
done_digits : length (decimal done) ≡ 1
unfolding digits pick
done_digits = refl

-- a line takes its text, and 21 bytes for each number at most
line_most : (text ns : List ℕ) → length (line text ns) ≤ length text + 21 * length ns
line_most text ns = omega (arith, length-append text (numbers ns), numbers_most ns)

-- the text and the numbers of a line, in bytes
given_length : (g : Given) → length (answer_line g) ≤ length (decimal g.number) + length (word_text g.word) + 21 * length g.details
unfolding answer_line
given_length g = omega (arith, line_most (decimal g.number ++ word_text g.word) g.details, length-append (decimal g.number) (word_text g.word))

-- an answer's line with its end
pub answer_most : (a : Answered) → length (answer_line (given a)) + 1 ≤ answer_bytes
answer_most =
    by_given (λ (g : Given). length (answer_line g) + 1 ≤ answer_bytes)
    (λ n. omega (arith, given_length (gives n None []), digits_most 10 48 20 n))
    (λ value. omega (arith, given_length (gives done None (value ∷ [])), done_digits))
    (omega (arith, given_length (gives done (Some Run) []), done_digits))
    (omega (arith, given_length (gives done (Some Off) []), done_digits))
    (λ kind x y. omega (arith, given_length (gives done (Some Op) (kind ∷ x ∷ y ∷ [])), done_digits))

-- its parts, one after another
pub answer_parts : (a : Answered) → length (decimal (given a).number) + length (word_text (given a).word) + length (numbers (given a).details) + 1 ≤ answer_bytes
unfolding answer_line
answer_parts a =
    let g = given a in
    let text = decimal g.number ++ word_text g.word in
    omega (arith, answer_most a, length-append text (numbers g.details), length-append (decimal g.number) (word_text g.word))

-- the line of an effect: its numbers, and all of it
pub record_most : (effects : List ℕ) (i : ℕ) → length (numbers (row effect_words effects i)) ≤ 147
unfolding row
record_most effects i =
    let part = row effect_words effects i in
    omega (arith, numbers_most part, length-take effect_words (drop (i * effect_words) effects))

pub did_most : (effects : List ℕ) (i : ℕ) → length (did_line effects i) ≤ did_bytes
did_most effects i =
    let text = line (bytes "did") (row effect_words effects i) in
    omega (arith, record_most effects i, length-append (bytes "did") (numbers (row effect_words effects i)), length-append text (line_end ∷ []))

-- rows of so many bytes at most
rows_most : (f : ℕ → List ℕ) (w : ℕ) → ((i : ℕ) → length (f i) ≤ w) → (n : ℕ) → length (rows_of f n) ≤ n * w
unfolding rows_of
rows_most f w few zero = omega (arith, zero-mul w)
rows_most f w few (suc n) = omega (arith, length-append (rows_of f n) (f n), rows_most f w few n, few n, suc-mul n w)

pub dids_most : (effects : List ℕ) (n : ℕ) → length (rows_of (did_line effects) n) ≤ n * did_bytes
dids_most effects n = rows_most (did_line effects) did_bytes (did_most effects) n

-- ---- a loop that puts them: none yet, and one more

pub dids_none : (effects out : List ℕ) → Put 0 (rows_of (did_line effects) 0) out 0 out
unfolding rows_of
dids_none effects out = put_none 0 out

pub dids_next : (effects : List ℕ) (i : ℕ) {place next : ℕ} {out between after : List ℕ}
    → Put 0 (rows_of (did_line effects) i) out place between
    → Put place (did_line effects i) between next after → Put 0 (rows_of (did_line effects) (i + 1)) out next after
unfolding rows_of
dids_next effects i p q = put_as (ap (rows_of (did_line effects)) (sym (add-one i))) (put_then (omega arith) p q)

-- ---- the whole

-- what is printable: the effects room has the records, which are no more than a queue's, and there is room for whatever is printed
pub record Printable (a : Reply) (effects out : List ℕ) : Type 0 where
  pub few : a.did ≤ max_commands
  pub there : a.did * effect_words ≤ length effects
  pub roomy : most_printed ≤ length out

pub printable_is : (a : Reply) (effects out : List ℕ) → printable a effects out ≡ true → Printable a effects out
unfolding printable
printable_is a effects out e =
    let first = leb a.did max_commands in
    let second = leb (a.did * effect_words) (length effects) in
    let both = and_left (first && second) (leb most_printed (length out)) e in
    record {
      few = leb-true a.did max_commands (and_left first second both);
      there = leb-true (a.did * effect_words) (length effects) (and_right first second both);
      roomy = leb-true most_printed (length out) (and_right (first && second) _ e);
    }

pub is_printable : (a : Reply) (effects out : List ℕ) → Printable a effects out → printable a effects out ≡ true
unfolding printable
is_printable a effects out p = and_both (and_both (le-leb _ _ p.few) (le-leb _ _ p.there)) (le-leb _ _ p.roomy)

module _ (a : Reply) (effects out : List ℕ) where
  -- what is put at the front of the buffer is printed over it, and else nothing
  pub printed_put : {n : ℕ} {after : List ℕ} → printable a effects out ≡ true → Put 0 (printed a effects) out n after
      → printing (Some n) after ≡ printed_over a effects out
  unfolding printed_over
  printed_put e p = print_put (printed a effects) out e p

  pub nothing_put : printable a effects out ≡ false → printing None out ≡ printed_over a effects out
  unfolding printed_over
  nothing_put e = print_none (printed a effects) out e

  -- at least a byte is printed, and what is printed fits
  pub printed_some : 0 < length (printed a effects)
  unfolding printed
  printed_some =
      let dids = rows_of (did_line effects) a.did in
      omega (arith, length-append dids (answer_line (given a.answer) ++ (line_end ∷ [])), length-append (answer_line (given a.answer)) (line_end ∷ []))

  pub printed_most : a.did ≤ max_commands → length (printed a effects) ≤ most_printed
  unfolding printed
  printed_most few =
      let dids = rows_of (did_line effects) a.did in
      omega (
        arith,
        dids_most effects a.did,
        answer_most a.answer,
        length-append dids (answer_line (given a.answer) ++ (line_end ∷ [])),
        length-append (answer_line (given a.answer)) (line_end ∷ []),
      )

  -- so a byte or more is printed over the buffer, and no more than the room that is asked for
  pub print_some : Printable a effects out
      → (0 < unwrap_or (printed_over a effects out).length 0) × (unwrap_or (printed_over a effects out).length 0 ≤ most_printed)
  unfolding printed_over pick
  print_some p = rw (is_printable a effects out p) (printed_some, printed_most p.few)
