-- Lists of what a function gives below n: their length, and tests of them. Assumes nothing.
use Prim.Native.Nat.{ℕ, zero, suc, ◌+◌, ◌<◌}
use mathlib.Core.Path.{◌≡◌, refl, sym, ap, ap₂, ◌∙◌}
use mathlib.Core.Bool.{Bool, true, false, ◌&&◌, ◌||◌, not, or-false, or_assoc, and-true, and_assoc}
use mathlib.Core.List.{List, [], ◌∷◌, ◌++◌}
use native.Mathlib.Nat.{le_refl}
use native.Mathlib.Numerals.{add-one}
use native.Mathlib.Omega.{arith}
use lib.ListN.{length, length-append}
use Rattle.table_rows.specs.Choice.{every, exists}
use Rattle.table_rows.specs.Lists.{up_to, any_of, all_of}

module _ {A : Type 0} (f : ℕ → A) where
  pub up_to_length : (n : ℕ) → length (up_to f n) ≡ n
  unfolding up_to
  up_to_length zero = refl
  up_to_length (suc n) = length-append (up_to f n) (f n ∷ []) ∙ omega (arith, up_to_length n)

  -- one more, as a loop counts
  pub up_to_next : (n : ℕ) → up_to f (n + 1) ≡ up_to f n ++ (f n ∷ [])
  unfolding up_to
  up_to_next n = ap (up_to f) (add-one n)

  -- functions that agree below n give the same list
  pub up_to_same : (g : ℕ → A) (n : ℕ) → ((i : ℕ) → i < n → f i ≡ g i) → up_to f n ≡ up_to g n
  unfolding up_to
  up_to_same g zero h = refl
  up_to_same g (suc n) h = ap₂ (λ (xs : List A) (x : A). xs ++ (x ∷ [])) (up_to_same g n (λ i l. h i (omega arith))) (h n (le_refl (suc n)))

-- ---- one more at the end

module _ {A : Type 0} (p : A → Bool) (y : A) where
  pub any_last : (xs : List A) → any_of p (xs ++ (y ∷ [])) ≡ any_of p xs || p y
  unfolding any_of
  any_last [] = or-false (p y)
  any_last (x ∷ xs) = ap (λ (b : Bool). p x || b) (any_last xs) ∙ sym (or_assoc (p x) (any_of p xs) (p y))

  pub all_last : (xs : List A) → all_of p (xs ++ (y ∷ [])) ≡ all_of p xs && p y
  unfolding all_of
  all_last [] = and-true (p y)
  all_last (x ∷ xs) = ap (λ (b : Bool). p x && b) (all_last xs) ∙ sym (and_assoc (p x) (all_of p xs) (p y))

-- ---- a test of the list is a test of the numbers

either : (a b : Bool) → not a || b ≡ not (a && not b)
either true true = refl
either true false = refl
either false b = refl

module _ {A : Type 0} (p : A → Bool) (f : ℕ → A) where
  pub any_up_to : (n : ℕ) → any_of p (up_to f n) ≡ exists (λ i. p (f i)) n
  unfolding any_of up_to every
  any_up_to zero = refl
  any_up_to (suc n) =
      any_last p (f n) (up_to f n)
      ∙ ap (λ (b : Bool). b || p (f n)) (any_up_to n)
      ∙ either (every (λ i. not (p (f i))) n) (p (f n))

  pub all_up_to : (n : ℕ) → all_of p (up_to f n) ≡ every (λ i. p (f i)) n
  unfolding all_of up_to every
  all_up_to zero = refl
  all_up_to (suc n) = all_last p (f n) (up_to f n) ∙ ap (λ (b : Bool). b && p (f n)) (all_up_to n)
