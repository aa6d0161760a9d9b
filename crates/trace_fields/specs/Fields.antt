-- A line read byte by byte into its fields: a word and numbers, parted by tabs.
use Rattle.std.specs.Prelude.{ℕ, ◌+◌, ◌-◌, ◌*◌, ◌^◌, Bool, true, false, ◌&&◌, ◌||◌, not, Option, None, Some, List, [], ◌∷◌, length, take, set, eqb, leb, ltb}
use Rattle.table_rows.specs.Choice.{pick}
use Rattle.trace_text.specs.Text.{tab}
use Rattle.trace_fields.specs.declared.Line.{Line}

-- nothing was read yet
abbrev pub start : Line
start = record { count = 0; value = 0; begun = false; bad = false }

-- a line in no form
abbrev pub spoilt : Line
spoilt = record { count = 0; value = 0; begun = false; bad = true }

-- nothing was read of it
abbrev pub is_empty : Line → Bool
is_empty l = not l.bad && not l.begun && eqb l.count 0

-- ---- a field

-- a byte cannot go on a field whose digits are the bytes from `low` to `high`: nothing may follow a lone 0
abbrev pub cannot_follow : ℕ → ℕ → Line → ℕ → Bool
cannot_follow low high l byte = l.bad || l.begun && eqb l.value 0 || ltb byte low || ltb high byte

-- one byte more of a field in a base, the digit 0 having the byte `nought`: its value may not go above 2^64 − 1
unfoldable pub more : ℕ → ℕ → ℕ → ℕ → Line → ℕ → Line
more base nought low high l byte =
    pick (cannot_follow low high l byte) spoilt
    (pick (leb (2 ^ 64) (l.value * base + (byte - nought))) spoilt
    (record { count = l.count; value = l.value * base + (byte - nought); begun = true; bad = false }))

-- one letter more of the word
abbrev pub letter : Line → ℕ → Line
letter l byte = more 100 96 97 122 l byte

-- one digit more of a number
abbrev pub digit : Line → ℕ → Line
digit l byte = more 10 48 48 57 l byte

-- ---- a line

-- a line that is being read, and the room for its fields
pub record Reading : Type 0 where
  pub line : Line
  pub fields : List ℕ

-- the two together
abbrev pub reading : Line → List ℕ → Reading
reading line fields = record { line = line; fields = fields }

-- a field cannot end: it must not be empty, and there must be room for it
abbrev pub cannot_end : Reading → Bool
cannot_end x = x.line.bad || not x.line.begun || leb (length x.fields) x.line.count

-- the field ends, and its value goes to its place
unfoldable pub closed : Reading → Reading
closed x =
    pick (cannot_end x) (reading spoilt x.fields)
    (reading (record { count = x.line.count + 1; value = 0; begun = false; bad = false })
    (set x.fields x.line.count x.line.value))

-- one byte more: a tab ends the field; the first field is the word
unfoldable pub fed : Reading → ℕ → Reading
fed x byte =
    pick (eqb byte tab) (closed x)
    (pick (eqb x.line.count 0) (reading (letter x.line byte) x.fields) (reading (digit x.line byte) x.fields))

-- a text more, byte by byte
abbrev pub read_on : Reading → List ℕ → Reading
read_on x [] = x
read_on x (byte ∷ text) = read_on (fed x byte) text

-- how many fields a line has at its end; 0 for a line in no form
abbrev pub field_count : Reading → ℕ
field_count x = (closed x).line.count

-- the same of a line that was ended, and nothing of a line in no form
abbrev pub counted : Reading → Option ℕ
counted x = pick x.line.bad None (Some x.line.count)

-- those fields
abbrev pub fields_in : Reading → List ℕ
fields_in x = take (field_count x) (closed x).fields
