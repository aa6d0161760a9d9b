-- What was written is read: a text of fields gives those fields, where there is room for them. Assumes nothing.
use Prim.Native.Nat.{ℕ, zero, suc, ◌+◌, ◌-◌, ◌*◌, ◌/◌, ◌%◌, ◌^◌, ◌≤◌, ◌<◌}
use mathlib.Core.Path.{◌≡◌, refl, sym, ap, ◌∙◌}
use mathlib.Core.Bool.{true, false, ◌&&◌}
use mathlib.Core.List.{List, [], ◌∷◌, ◌++◌, append_assoc}
use native.Mathlib.Numerals.{add-one}
use native.Mathlib.Omega.{arith}
use lib.ListN.{length, take, set, length-set}
use lib.Seq.{take-suc-set}
use lib.Dec.{eqb, leb, ltb}
use borrow.Author.Tests.{le-ltb, lt-leb, ltb-true, ltb-false, ne_eqb}
use Rattle.table_rows.specs.Choice.{pick}
use Rattle.table_rows.specs.Lists.{all_of}
use Rattle.table_rows.proofs.PickLaws.{no, by_test, and_left, and_right}
use Rattle.trace_text.specs.Text.{tab, digits, decimal, word, numbers, line}
use Rattle.trace_text.proofs.DigitLaws.{digits_one, digits_more, quotient_below}
use Rattle.trace_fields.specs.declared.Line.{Line}
use Rattle.trace_fields.specs.Fields.{start, spoilt, cannot_follow, more, digit, Reading, reading, closed, fed, read_on, fields_in}
use Rattle.trace_fields.proofs.ReadLaws.{fresh, got, closed_ended, fed_digit, read_parts}
use Rattle.trace_fields.proofs.SoundLaws.{low64}

-- ---- a number

-- one digit more of a field, whose value it makes v
module _ (l : Line) (d v : ℕ) (good : l.bad ≡ false) (lone : l.begun && eqb l.value 0 ≡ false) (small : d < 10)
    (is : l.value * 10 + d ≡ v) (room : v < 2 ^ 64) where
  can_follow : cannot_follow 48 57 l (48 + d) ≡ false
  can_follow = rw (good, lone, le-ltb (48 + d) 48 (omega arith), le-ltb 57 (48 + d) (omega arith))

  digit_more : digit l (48 + d) ≡ got l.count v
  unfolding more
  digit_more =
      let value : l.value * 10 + ((48 + d) - 48) ≡ v = omega arith in
      sym
      (no spoilt can_follow
      (no spoilt (ap (leb (2 ^ 64)) value ∙ lt-leb (2 ^ 64) v room) (ap (got l.count) (sym value))))

  fed_more : (fields : List ℕ) → 0 < l.count → fed (reading l fields) (48 + d) ≡ reading (got l.count v) fields
  fed_more fields later =
      fed_digit (reading l fields) (48 + d) (ne_eqb (48 + d) tab (λ e. omega arith)) (ne_eqb l.count 0 (λ e. omega arith))
      ∙ ap (λ (m : Line). reading m fields) digit_more

module _ (count : ℕ) (later : 0 < count) (fields : List ℕ) where
  read_one : (most v : ℕ) → v < 10 → read_on (reading (fresh count) fields) (digits (suc most) 10 48 v) ≡ reading (got count v) fields
  read_one most v l =
      ap (read_on (reading (fresh count) fields)) (digits_one 10 48 most v l)
      ∙ fed_more (fresh count) v v refl refl l (omega arith) (omega arith) fields later

  -- its digits, of which there may be so many
  read_digits : (most v : ℕ) → v < 10 ^ suc most → v < 2 ^ 64
      → read_on (reading (fresh count) fields) (digits (suc most) 10 48 v) ≡ reading (got count v) fields
  read_digits zero v l room = read_one 0 v l
  read_digits (suc most) v l room =
      by_test (ltb v 10) (λ e. read_one (suc most) v (ltb-true v 10 e))
      (λ e.
      let big = ltb-false v 10 e in
      ap (read_on (reading (fresh count) fields)) (digits_more 10 48 (suc most) v big)
      ∙ read_parts (reading (fresh count) fields) (digits (suc most) 10 48 (v / 10)) ((48 + v % 10) ∷ [])
      ∙ ap (λ (x : Reading). fed x (48 + v % 10))
      (read_digits most (v / 10) (quotient_below 10 48 (omega arith) (suc most) v l) (omega arith))
      ∙ fed_more (got count (v / 10)) (v % 10) v refl (ne_eqb (v / 10) 0 (λ q. omega arith)) (omega arith) (omega arith) room fields later)

  read_decimal : (v : ℕ) → v < 2 ^ 64 → read_on (reading (fresh count) fields) (decimal v) ≡ reading (got count v) fields
  read_decimal v l = read_digits 19 v (omega arith) l

-- ---- numbers

-- the field ends where there is room for it
ends_here : (count v : ℕ) (fields : List ℕ) → count < length fields
    → closed (reading (got count v) fields) ≡ reading (fresh (count + 1)) (set fields count v)
ends_here count v fields l = closed_ended (reading (got count v) fields) (lt-leb (length fields) count l)

-- the fields before, this one, and the numbers
read_numbers : (ns : List ℕ) (count v : ℕ) (fields : List ℕ) → all_of low64 ns ≡ true → count + length (v ∷ ns) ≤ length fields
    → fields_in (read_on (reading (got count v) fields) (numbers ns)) ≡ take count fields ++ (v ∷ ns)
unfolding all_of fed pick
read_numbers [] count v fields small room =
    ap (λ (x : Reading). take x.line.count x.fields) (ends_here count v fields (omega arith))
    ∙ ap (λ (n : ℕ). take n (set fields count v)) (add-one count)
    ∙ take-suc-set fields count v (omega arith)
read_numbers (n ∷ ns) count v fields small room =
    let x = reading (got count v) fields in
    let next = set fields count v in
    ap (λ (y : Reading). fields_in (read_on y (decimal n ++ numbers ns))) (ends_here count v fields (omega arith))
    ∙ ap fields_in (read_parts (reading (fresh (count + 1)) next) (decimal n) (numbers ns))
    ∙ ap (λ (y : Reading). fields_in (read_on y (numbers ns)))
    (read_decimal (count + 1) (omega arith) next n (ltb-true n (2 ^ 64) (and_left (low64 n) (all_of low64 ns) small)))
    ∙ read_numbers ns (count + 1) n next (and_right (low64 n) (all_of low64 ns) small) (rw (length-set fields count v) (omega arith))
    ∙ ap (λ (l : List ℕ). l ++ (n ∷ ns)) (ap (λ (k : ℕ). take k next) (add-one count) ∙ take-suc-set fields count v (omega arith))
    ∙ append_assoc (take count fields) (v ∷ []) (n ∷ ns)

-- a word that reads to its key, and numbers that follow it
pub complete : (room : List ℕ) (w : ℕ) (ns : List ℕ) → read_on (reading start room) (word w) ≡ reading (got 0 w) room → all_of low64 ns ≡ true
    → length (w ∷ ns) ≤ length room → fields_in (read_on (reading start room) (line (word w) ns)) ≡ w ∷ ns
complete room w ns reads small fits =
    ap fields_in (read_parts (reading start room) (word w) (numbers ns))
    ∙ ap (λ (x : Reading). fields_in (read_on x (numbers ns))) reads
    ∙ read_numbers ns 0 w room small (omega arith)
