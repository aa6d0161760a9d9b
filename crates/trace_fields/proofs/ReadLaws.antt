-- A byte more and the end of a field, case by case, and a text that is read part by part. Assumes nothing.
use Prim.Native.Nat.{ℕ, ◌+◌}
use mathlib.Core.Path.{◌≡◌, refl, sym}
use mathlib.Core.Bool.{true, false}
use mathlib.Core.List.{List, [], ◌∷◌, ◌++◌}
use lib.ListN.{set}
use lib.Dec.{eqb}
use Rattle.table_rows.proofs.PickLaws.{yes, no}
use Rattle.trace_text.specs.Text.{tab}
use Rattle.trace_fields.specs.declared.Line.{Line}
use Rattle.trace_fields.specs.Fields.{spoilt, letter, digit, Reading, reading, closed, fed, read_on, cannot_end}

-- a line before a field, after so many others
abbrev pub fresh : ℕ → Line
fresh count = record { count = count; value = 0; begun = false; bad = false }

-- a line with a field whose value is v so far
abbrev pub got : ℕ → ℕ → Line
got count v = record { count = count; value = v; begun = true; bad = false }

-- ---- the end of a field

-- its value goes to its place
abbrev pub ended : Reading → Reading
ended x = reading (fresh (x.line.count + 1)) (set x.fields x.line.count x.line.value)

pub closed_spoilt : (x : Reading) → cannot_end x ≡ true → closed x ≡ reading spoilt x.fields
unfolding closed
closed_spoilt x e = sym (yes (ended x) e refl)

pub closed_ended : (x : Reading) → cannot_end x ≡ false → closed x ≡ ended x
unfolding closed
closed_ended x e = sym (no (reading spoilt x.fields) e refl)

-- ---- one byte more: of each kind

pub fed_tab : (x : Reading) (byte : ℕ) → eqb byte tab ≡ true → fed x byte ≡ closed x
unfolding fed
fed_tab x byte e = sym (yes _ e refl)

pub fed_letter : (x : Reading) (byte : ℕ) → eqb byte tab ≡ false → eqb x.line.count 0 ≡ true
    → fed x byte ≡ reading (letter x.line byte) x.fields
unfolding fed
fed_letter x byte e q = sym (no _ e (yes _ q refl))

pub fed_digit : (x : Reading) (byte : ℕ) → eqb byte tab ≡ false → eqb x.line.count 0 ≡ false
    → fed x byte ≡ reading (digit x.line byte) x.fields
unfolding fed
fed_digit x byte e q = sym (no _ e (no _ q refl))

-- ---- a text

-- two parts, one after the other
pub read_parts : (x : Reading) (a b : List ℕ) → read_on x (a ++ b) ≡ read_on (read_on x a) b
read_parts x [] b = refl
read_parts x (byte ∷ a) b = read_parts (fed x byte) a b
