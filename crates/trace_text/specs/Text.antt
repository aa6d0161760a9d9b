-- Text as bytes: words, plain decimals, and the lines that are made of them.
use Rattle.std.specs.Prelude.{ℕ, zero, suc, ◌+◌, ◌/◌, ◌%◌, ◌≡◌, Bool, Option, None, Some, List, [], ◌∷◌, ◌++◌, length, take, drop, ltb}
use Prim.Native.Char.{code}
use Prim.Native.String.{String, [] as end, ◌∷◌ as ◌then◌}
use Rattle.table_rows.specs.Choice.{pick}
use Rattle.table_rows.specs.Rows.{over}

-- the bytes of a text in ASCII
abbrev pub bytes : String → List ℕ
bytes end = []
bytes (c then s) = code c ∷ bytes s

-- what parts the fields of a line
abbrev pub tab : ℕ
tab = 9

-- what ends a line
abbrev pub line_end : ℕ
line_end = 10

-- n in a base, the highest digit first and without leading zeros, in at most so many digits; the digit 0 has the byte `nought`
unfoldable pub digits : ℕ → ℕ → ℕ → ℕ → List ℕ
digits zero base nought n = []
digits (suc most) base nought n =
    pick (ltb n base) ((nought + n) ∷ []) (digits most base nought (n / base) ++ ((nought + n % base) ∷ []))

-- twenty digits are enough for 2^64 − 1 in base 10
abbrev pub spelled : ℕ → ℕ → ℕ → List ℕ
spelled base nought n = digits 20 base nought n

-- a plain decimal
abbrev pub decimal : ℕ → List ℕ
decimal n = spelled 10 48 n

-- the word of a number, two decimal digits for each letter: a is 01, z is 26
abbrev pub word : ℕ → List ℕ
word key = spelled 100 96 key

-- a number after a tab
abbrev pub field : ℕ → List ℕ
field n = tab ∷ decimal n

-- numbers, each after a tab
abbrev pub numbers : List ℕ → List ℕ
numbers [] = []
numbers (n ∷ ns) = field n ++ numbers ns

-- a line without its end: a text, then numbers
abbrev pub line : List ℕ → List ℕ → List ℕ
line text ns = text ++ numbers ns

-- bytes from place `at` on over what stood there
abbrev pub written : ℕ → List ℕ → List ℕ → List ℕ
written at text out = take at out ++ (text ++ drop (at + length text) out)

-- a text was put from place `at` of a buffer on: the place after it, and the buffer afterwards
pub record Put (at : ℕ) (text out : List ℕ) (place : ℕ) (after : List ℕ) : Type 0 where
  pub ends : place ≡ at + length text
  pub leaves : after ≡ written at text out

-- how many bytes were printed over the front of a buffer, if it was printed, and the buffer afterwards
pub record Printing : Type 0 where
  pub length : Option ℕ
  pub out : List ℕ

-- the two together
abbrev pub printing : Option ℕ → List ℕ → Printing
printing length out = record { length = length; out = out }

-- a text is printed over the front of a buffer; nothing is where the room is too short
abbrev pub printed_in : Bool → List ℕ → List ℕ → Printing
printed_in roomy text out = pick roomy (printing (Some (length text)) (over text out)) (printing None out)
