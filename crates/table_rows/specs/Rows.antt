-- Rows of w words, one after the other in a flat list. What lies past the last row belongs to no row.
use Rattle.std.specs.Prelude.{ℕ, zero, suc, ◌+◌, ◌*◌, List, [], ◌∷◌, ◌++◌, length, take, drop, get_or}

-- row i
unfoldable pub row : ℕ → List ℕ → ℕ → List ℕ
row w xs i = take w (drop (i * w) xs)

-- word j of row i
unfoldable pub word_at : ℕ → List ℕ → ℕ → ℕ → ℕ
word_at w xs i j = get_or (row w xs i) j 0

-- the list with ys in the place of row i
unfoldable pub put : ℕ → List ℕ → ℕ → List ℕ → List ℕ
put w xs i ys = take (i * w) xs ++ (ys ++ drop (i * w + w) xs)

-- n words of ys from place i on, one by one: at a numeral n it computes to a list that is written out
abbrev pub words : ℕ → List ℕ → ℕ → List ℕ
words zero ys i = []
words (suc n) ys i = get_or ys i 0 ∷ words n ys (suc i)

-- n rows, one after the other
unfoldable pub rows_of : (ℕ → List ℕ) → ℕ → List ℕ
rows_of f zero = []
rows_of f (suc n) = rows_of f n ++ f n

-- words over the front of others
abbrev pub over : List ℕ → List ℕ → List ℕ
over front words = front ++ drop (length front) words
