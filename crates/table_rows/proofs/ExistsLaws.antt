-- A test of some number below n: by one that passes, by all that fail, and which one it was. Assumes nothing.
use mathlib.Core.Path.{◌≡◌, refl, sym, ◌∙◌}
use mathlib.Core.Bool.{Bool, true, false, not, false≢true}
use Prim.Native.Nat.{ℕ, zero, suc, ◌<◌}
use native.Mathlib.Nat.{le_refl}
use native.Mathlib.Omega.{arith}
use borrow.Author.Tests.{not-true, not-false}
use Rattle.table_rows.specs.Choice.{every, exists}
use Rattle.table_rows.proofs.PickLaws.{by_test, not_yes, not_no, and_both}
use Rattle.table_rows.proofs.EveryLaws.{every_at, every_of, every_fails}

module _ (f : ℕ → Bool) where
  pub exists_of : (i n : ℕ) → i < n → f i ≡ true → exists f n ≡ true
  exists_of i n l e = not_yes _ (every_fails (λ j. not (f j)) i n l (not_no (f i) e))

  pub none_of : (n : ℕ) → ((i : ℕ) → i < n → f i ≡ false) → exists f n ≡ false
  none_of n h = not_no _ (every_of (λ j. not (f j)) n (λ i l. not_yes (f i) (h i l)))

  -- none passes: each fails
  pub exists_none : (i n : ℕ) → i < n → exists f n ≡ false → f i ≡ false
  exists_none i n l e = not-true (f i) (every_at (λ j. not (f j)) i n (not-false _ e) l)

  -- one that passes
  pub exists_at : (n : ℕ) → exists f n ≡ true → (i : ℕ) × (i < n) × (f i ≡ true)
  unfolding every
  exists_at zero e = absurd (false≢true e)
  exists_at (suc n) e =
      by_test (f n) (λ p. (n, le_refl (suc n), p))
      (λ p. by_test (exists f n) (λ s. let w = exists_at n s in (w.0, omega arith, w.2))
      (λ s. absurd (false≢true (sym (not_no _ (and_both (not-false (every (λ j. not (f j)) n) s) (not_yes (f n) p))) ∙ e))))

  -- some number passes exactly when g holds: i is the one that passes then
  pub exists_is : (n : ℕ) (g : Bool) (i : ℕ) → (g ≡ true → (i < n) × (f i ≡ true)) → ((j : ℕ) → j < n → f j ≡ true → g ≡ true)
      → exists f n ≡ g
  exists_is n true i h k = exists_of i n (h refl).0 (h refl).1
  exists_is n false i h k = none_of n (λ j l. by_test (f j) (λ e. e ∙ sym (k j l e)) (λ e. e))

  -- a search that ends at the first number that passes, or passes none
  pub exists_found : (b : Bool) (n : ℕ) → (b ≡ true → (i : ℕ) × (i < n) × (f i ≡ true)) → (b ≡ false → (i : ℕ) → i < n → f i ≡ false) → b ≡ exists f n
  exists_found true n h g = let w = h refl in sym (exists_of w.0 n w.1 w.2)
  exists_found false n h g = sym (none_of n (g refl))
