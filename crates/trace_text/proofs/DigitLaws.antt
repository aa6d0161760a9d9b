-- The digits of a number: of one below the base, of one more digit behind others, and when there are enough of them. Assumes nothing.
use Prim.Native.Nat.{ℕ, zero, suc, ◌+◌, ◌*◌, ◌/◌, ◌%◌, ◌^◌, ◌≤◌, ◌<◌}
use mathlib.Core.Path.{◌≡◌, refl, sym, ap, ap₂, ◌∙◌}
use mathlib.Core.List.{List, [], ◌∷◌, ◌++◌}
use native.Mathlib.Nat.{pow-suc, pow-zero, one-mul, div-lt_iff_lt-mul, mul-add-div_right, mul-add-mod_self_right, div-eq_of_lt, mod-eq_of_lt, add-zero, mul-le-mul_right}
use native.Mathlib.Omega.{arith}
use lib.Dec.{ltb}
use borrow.Author.Tests.{lt-ltb, le-ltb, ltb-true, ltb-false}
use Rattle.table_rows.proofs.PickLaws.{yes, no, by_test}
use Rattle.trace_text.specs.Text.{digits, spelled}

module _ (base nought : ℕ) where
  -- a number below the base is one digit
  pub digits_one : (most n : ℕ) → n < base → digits (suc most) base nought n ≡ (nought + n) ∷ []
  unfolding digits
  digits_one most n l = sym (yes _ (lt-ltb n base l) refl)

  -- another is the digits of its quotient and one more
  pub digits_more : (most n : ℕ) → base ≤ n
      → digits (suc most) base nought n ≡ digits most base nought (n / base) ++ ((nought + n % base) ∷ [])
  unfolding digits
  digits_more most n l = sym (no _ (le-ltb n base l) refl)

module _ (base nought : ℕ) (some : 0 < base) where
  -- room for more digits than there are changes nothing
  enough_one : (most n : ℕ) → n < base → digits (suc (suc most)) base nought n ≡ digits (suc most) base nought n
  enough_one most n l = digits_one base nought (suc most) n l ∙ sym (digits_one base nought most n l)

  -- a quotient has one digit less
  pub quotient_below : (most n : ℕ) → n < base ^ suc most → n / base < base ^ most
  quotient_below most n l = (div-lt_iff_lt-mul some).1 (rw (pow-suc base most) at l)

  pub digits_enough : (most n : ℕ) → n < base ^ suc most → digits (suc (suc most)) base nought n ≡ digits (suc most) base nought n
  digits_enough zero n l = enough_one zero n (rw (pow-suc base 0, pow-zero base, one-mul base) at l)
  digits_enough (suc most) n l =
      by_test (ltb n base) (λ e. enough_one (suc most) n (ltb-true n base e))
      (λ e.
      digits_more base nought (suc (suc most)) n (ltb-false n base e)
      ∙ ap (λ (ds : List ℕ). ds ++ ((nought + n % base) ∷ [])) (digits_enough most (n / base) (quotient_below (suc most) n l))
      ∙ sym (digits_more base nought (suc most) n (ltb-false n base e)))

  -- one digit more behind those of a number that is not 0
  pub digits_next : (most n d : ℕ) → 0 < n → d < base → n < base ^ suc most
      → digits (suc (suc most)) base nought (n * base + d) ≡ digits (suc (suc most)) base nought n ++ ((nought + d) ∷ [])
  digits_next most n d pos small l =
      digits_more base nought (suc most) (n * base + d) (omega (arith, mul-le-mul_right base pos, one-mul base))
      ∙ ap₂ (λ (q r : ℕ). digits (suc most) base nought q ++ ((nought + r) ∷ []))
      (mul-add-div_right some n d ∙ ap (λ (k : ℕ). n + k) (div-eq_of_lt small) ∙ add-zero n)
      (mul-add-mod_self_right n base d ∙ mod-eq_of_lt small)
      ∙ ap (λ (ds : List ℕ). ds ++ ((nought + d) ∷ [])) (sym (digits_enough most n l))

  -- the same of what is spelled
  pub spelled_next : (n d : ℕ) → 0 < n → d < base → n < base ^ 19
      → spelled base nought (n * base + d) ≡ spelled base nought n ++ ((nought + d) ∷ [])
  spelled_next n d pos small l = digits_next 18 n d pos small l
