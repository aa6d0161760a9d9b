-- A test of every number below n, as a loop or a search makes it. Assumes nothing.
use mathlib.Core.Path.{◌≡◌, refl, sym}
use mathlib.Core.Bool.{Bool, true, false, ◌&&◌, and-true, and-false}
use Rattle.std.proofs.Math.Bool.{and_assoc}
use mathlib.Core.Logic.{⊎_elim}
use Prim.Native.Nat.{ℕ, zero, suc, ◌+◌, ◌<◌}
use native.Mathlib.Nat.{not-suc-le-zero, le_of_suc-le-suc, eq-or-lt_of_le, le_refl}
use native.Mathlib.Numerals.{add-one}
use native.Mathlib.Omega.{arith}
use Rattle.table_rows.specs.Choice.{every}
use Rattle.table_rows.proofs.PickLaws.{and_left, and_right, and_both}

module _ (f : ℕ → Bool) where
  -- what each index tells
  pub every_at : (i n : ℕ) → every f n ≡ true → i < n → f i ≡ true
  unfolding every
  every_at i zero p l = absurd (not-suc-le-zero l)
  every_at i (suc n) p l =
      ⊎_elim (λ q. rw q (and_right (every f n) (f n) p))
      (λ lt. every_at i n (and_left (every f n) (f n) p) lt)
      (eq-or-lt_of_le (le_of_suc-le-suc l))

  pub every_of : (n : ℕ) → ((i : ℕ) → i < n → f i ≡ true) → every f n ≡ true
  unfolding every
  every_of zero h = refl
  every_of (suc n) h = and_both (every_of n (λ i l. h i (omega arith))) (h n (le_refl (suc n)))

  pub every_fails : (i n : ℕ) → i < n → f i ≡ false → every f n ≡ false
  unfolding every
  every_fails i zero l e = absurd (not-suc-le-zero l)
  every_fails i (suc n) l e =
      ⊎_elim (λ q. rw (← q, e) (and-false (every f i)))
      (λ lt. rw (every_fails i n lt e))
      (eq-or-lt_of_le (le_of_suc-le-suc l))

  -- one more index passes, or one fails
  pub every_more : (i : ℕ) → every f i ≡ true → f i ≡ true → every f (i + 1) ≡ true
  unfolding every
  every_more i p q = rw (add-one i) (and_both p q)

  pub every_not : (i n : ℕ) → i < n → f i ≡ false → false ≡ every f n
  every_not i n l e = sym (every_fails i n l e)

  -- a search that ends at the first index that fails, or passes them all
  pub every_is : (b : Bool) (n : ℕ) → (b ≡ true → (i : ℕ) → i < n → f i ≡ true) → (b ≡ false → (i : ℕ) × (i < n) × (f i ≡ false)) → b ≡ every f n
  every_is true n h g = sym (every_of n (h refl))
  every_is false n h g = let w = g refl in every_not w.0 n w.1 w.2

  -- the first index apart
  pub every_first : (n : ℕ) → every f (suc n) ≡ f 0 && every (λ i. f (suc i)) n
  unfolding every
  every_first zero = sym (and-true (f 0))
  every_first (suc n) = rw (every_first n) (and_assoc (f 0) (every (λ i. f (suc i)) n) (f (suc n)))
