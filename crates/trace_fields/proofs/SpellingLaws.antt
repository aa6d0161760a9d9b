-- The text of fields, one field more at a time. Assumes nothing.
use Prim.Native.Nat.{ℕ}
use mathlib.Core.Path.{◌≡◌, sym, ap, ◌∙◌}
use mathlib.Core.List.{List, [], ◌∷◌, ◌++◌, append_assoc, append-nil}
use Rattle.trace_text.specs.Text.{tab, decimal, word, numbers, line}

-- the text of fields: the first is the word
abbrev pub spelt : List ℕ → List ℕ
spelt [] = []
spelt (w ∷ ns) = line (word w) ns

-- what stands before one field more
abbrev pub lead : List ℕ → List ℕ
lead [] = []
lead (w ∷ ns) = spelt (w ∷ ns) ++ (tab ∷ [])

-- one field more, of the value v
abbrev pub field : List ℕ → ℕ → List ℕ
field [] v = word v
field (w ∷ ns) v = decimal v

numbers_last : (ns : List ℕ) (v : ℕ) → numbers (ns ++ (v ∷ [])) ≡ numbers ns ++ (tab ∷ decimal v)
numbers_last [] v = ap (λ (l : List ℕ). tab ∷ l) (append-nil (decimal v))
numbers_last (n ∷ ns) v =
    ap (λ (l : List ℕ). tab ∷ (decimal n ++ l)) (numbers_last ns v)
    ∙ ap (λ (l : List ℕ). tab ∷ l) (sym (append_assoc (decimal n) (numbers ns) (tab ∷ decimal v)))

pub spelt_last : (xs : List ℕ) (v : ℕ) → spelt (xs ++ (v ∷ [])) ≡ lead xs ++ field xs v
spelt_last [] v = append-nil (word v)
spelt_last (w ∷ ns) v = ap (λ (l : List ℕ). word w ++ l) (numbers_last ns v) ∙ simp append_assoc

pub lead_last : (xs : List ℕ) (v : ℕ) → lead (xs ++ (v ∷ [])) ≡ (lead xs ++ field xs v) ++ (tab ∷ [])
lead_last [] v = ap (λ (l : List ℕ). l ++ (tab ∷ [])) (spelt_last [] v)
lead_last (w ∷ ns) v = ap (λ (l : List ℕ). l ++ (tab ∷ [])) (spelt_last (w ∷ ns) v)
