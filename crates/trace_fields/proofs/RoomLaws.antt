-- A line of more fields than there is room for is in no form. Assumes nothing.
use Prim.Native.Nat.{ℕ, zero, suc, ◌+◌, ◌/◌, ◌%◌, ◌≤◌, ◌<◌}
use mathlib.Core.Path.{◌≡◌, refl, sym, ap, ◌∙◌}
use mathlib.Core.Bool.{Bool}
use mathlib.Core.List.{List, [], ◌∷◌, ◌++◌}
use native.Mathlib.Omega.{arith}
use lib.ListN.{length, length-set}
use lib.Dec.{eqb, ltb}
use borrow.Author.Tests.{ltb-true, ltb-false, ne_eqb}
use Rattle.table_rows.specs.Choice.{pick}
use Rattle.table_rows.proofs.PickLaws.{by_test}
use Rattle.trace_text.specs.Text.{tab, digits, decimal, word, numbers, line}
use Rattle.trace_text.proofs.DigitLaws.{digits_one, digits_more}
use Rattle.trace_fields.specs.Fields.{start, Reading, reading, cannot_end, closed, fed, read_on, fields_in}
use Rattle.trace_fields.proofs.ReadLaws.{closed_spoilt, closed_ended, fed_tab, fed_letter, fed_digit}
use Rattle.trace_fields.proofs.SoundLaws.{sound, fields_placed, fields_counted}

-- ---- a line has one tab for each number

-- how many tabs are in a text
abbrev tabs : List ℕ → ℕ
tabs [] = 0
tabs (byte ∷ text) = pick (eqb byte tab) 1 0 + tabs text

tabs_append : (a b : List ℕ) → tabs (a ++ b) ≡ tabs a + tabs b
tabs_append [] b = omega arith
tabs_append (byte ∷ a) b = omega (arith, tabs_append a b)

tabs_one : (byte : ℕ) → tab < byte → tabs (byte ∷ []) ≡ 0
unfolding pick
tabs_one byte l = ap (λ (b : Bool). pick b 1 0 + 0) (ne_eqb byte tab (λ e. omega arith))

tabs_digits : (base nought : ℕ) → tab < nought → (most n : ℕ) → tabs (digits most base nought n) ≡ 0
unfolding digits
tabs_digits base nought l zero n = refl
tabs_digits base nought l (suc most) n =
    by_test (ltb n base) (λ e. ap tabs (digits_one base nought most n (ltb-true n base e)) ∙ tabs_one (nought + n) (omega arith))
    (λ e.
    let front = digits most base nought (n / base) in
    let last = (nought + n % base) ∷ [] in
    ap tabs (digits_more base nought most n (ltb-false n base e))
    ∙ tabs_append front last
    ∙ omega (arith, tabs_digits base nought l most (n / base), tabs_one (nought + n % base) (omega arith)))

tabs_numbers : (ns : List ℕ) → tabs (numbers ns) ≡ length ns
unfolding pick
tabs_numbers [] = refl
tabs_numbers (n ∷ ns) = omega (arith, tabs_append (decimal n) (numbers ns), tabs_digits 10 48 (omega arith) 20 n, tabs_numbers ns)

tabs_line : (w : ℕ) (ns : List ℕ) → tabs (line (word w) ns) ≡ length ns
tabs_line w ns = omega (arith, tabs_append (word w) (numbers ns), tabs_digits 100 96 (omega arith) 20 w, tabs_numbers ns)

-- ---- the room stays as long as it is

closed_length : (x : Reading) → length (closed x).fields ≡ length x.fields
closed_length x =
    by_test (cannot_end x) (λ e. ap (λ (y : Reading). length y.fields) (closed_spoilt x e))
    (λ e. ap (λ (y : Reading). length y.fields) (closed_ended x e) ∙ length-set x.fields x.line.count x.line.value)

fed_length : (x : Reading) (byte : ℕ) → length (fed x byte).fields ≡ length x.fields
fed_length x byte =
    by_test (eqb byte tab) (λ e. ap (λ (y : Reading). length y.fields) (fed_tab x byte e) ∙ closed_length x)
    (λ e.
    by_test (eqb x.line.count 0) (λ z. ap (λ (y : Reading). length y.fields) (fed_letter x byte e z))
    (λ z. ap (λ (y : Reading). length y.fields) (fed_digit x byte e z)))

pub read_length : (x : Reading) (text : List ℕ) → length (read_on x text).fields ≡ length x.fields
read_length x [] = refl
read_length x (byte ∷ text) = read_length (fed x byte) text ∙ fed_length x byte

-- no more fields than room
pub fields_fit : (x : Reading) → length (fields_in x) ≤ length x.fields
fields_fit x = omega (arith, fields_counted x, fields_placed x, closed_length x)

pub too_many : (room : List ℕ) (w : ℕ) (ns : List ℕ) → length room < length (w ∷ ns)
    → fields_in (read_on (reading start room) (line (word w) ns)) ≡ []
too_many room w ns more = none (fields_in (read_on (reading start room) (line (word w) ns))) refl
  where
    none : (xs : List ℕ) → fields_in (read_on (reading start room) (line (word w) ns)) ≡ xs → xs ≡ []
    none [] e = refl
    none (v ∷ vs) e =
        let x = read_on (reading start room) (line (word w) ns) in
        let same : length ns ≡ length vs = sym (tabs_line w ns) ∙ ap tabs (sound room (line (word w) ns) v vs e).0 ∙ tabs_line v vs in
        absurd (omega (arith, ap length e, fields_fit x, read_length (reading start room) (line (word w) ns)))
