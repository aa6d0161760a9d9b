-- How many digits a number has, and its last one. Assumes nothing.
use Prim.Native.Nat.{ℕ, zero, suc, ◌+◌, ◌*◌, ◌/◌, ◌%◌, ◌^◌, ◌≤◌, ◌<◌}
use mathlib.Core.Path.{◌≡◌, refl, sym, ap, ◌∙◌}
use mathlib.Core.List.{List, [], ◌∷◌, ◌++◌}
use native.Mathlib.Nat.{pow-suc, pow-zero, one-mul, pow-le-pow_left, lt_of_lt_of_le, le_trans}
use native.Mathlib.Numerals.{add-one}
use native.Mathlib.Bridge.{le_by_compare, IsLe}
use native.Mathlib.Omega.{arith}
use lib.ListN.{length, get_or, drop, length-append}
use lib.Seq.{drop-cons}
use lib.Dec.{ltb}
use Rattle.table_rows.specs.Choice.{pick}
use Rattle.table_rows.proofs.PickLaws.{by_pick, by_test}
use Rattle.trace_text.specs.Text.{digits, spelled, field, numbers}
use Rattle.trace_text.proofs.DigitLaws.{digits_one, digits_more, quotient_below, digits_enough}

module _ (base nought : ℕ) where
  -- at most as many as said, and one at least
  pub digits_most : (most n : ℕ) → length (digits most base nought n) ≤ most
  unfolding digits
  digits_most zero n = omega arith
  digits_most (suc most) n =
      by_pick (λ (l : List ℕ). length l ≤ suc most) (ltb n base) _ _ (λ _. omega arith)
      (λ _. omega (arith, digits_most most (n / base), length-append (digits most base nought (n / base)) ((nought + n % base) ∷ [])))

  -- no more than such powers of the base as are above the number
  pub digits_short : 0 < base → (most few n : ℕ) → n < base ^ suc few → length (digits most base nought n) ≤ suc few
  unfolding digits
  digits_short some zero few n l = omega arith
  digits_short some (suc most) zero n l =
      let m : n < base = rw (pow-suc base 0, pow-zero base, one-mul base) at l in
      omega (arith, ap length (digits_one base nought most n m))
  digits_short some (suc most) (suc few) n l =
      by_pick (λ (l : List ℕ). length l ≤ suc (suc few)) (ltb n base) _ _ (λ _. omega arith)
      (λ _.
      omega (
        arith,
        digits_short some most few (n / base) (quotient_below base nought some (suc few) n l),
        length-append (digits most base nought (n / base)) ((nought + n % base) ∷ []),
      ))

  pub digits_some : (most n : ℕ) → 0 < length (digits (suc most) base nought n)
  unfolding digits
  digits_some most n =
      by_pick (λ (l : List ℕ). 0 < length l) (ltb n base) _ _ (λ _. omega arith)
      (λ _. omega (arith, length-append (digits most base nought (n / base)) ((nought + n % base) ∷ [])))

  module _ (ten : 10 ≤ base) (n : ℕ) (fits : n < 2 ^ 64) where
    -- in base 10 or above there is room for all digits of a word
    room : n < base ^ 20
    unfolding IsLe
    room = lt_of_lt_of_le fits (le_trans (le_by_compare (2 ^ 64) (10 ^ 20) tt) (pow-le-pow_left ten 20))

    -- so the digits before the last are those of the number without it
    pub spelled_last : base ≤ n → spelled base nought n ≡ spelled base nought (n / base) ++ ((nought + n % base) ∷ [])
    spelled_last l =
        digits_more base nought 19 n l
        ∙ ap (λ (l : List ℕ). l ++ ((nought + n % base) ∷ []))
        (sym (digits_enough base nought (omega arith) 18 (n / base) (quotient_below base nought (omega arith) 19 n room)))

    pub spelled_one : n < base → spelled base nought n ≡ (nought + n) ∷ []
    spelled_one l = digits_one base nought 19 n l

    -- so a loop that drops digit after digit counts them
    pub count_next : base ≤ n → length (spelled base nought n) ≡ length (spelled base nought (n / base)) + 1
    count_next l = ap length (spelled_last l) ∙ length-append (spelled base nought (n / base)) ((nought + n % base) ∷ [])

-- the digits of a number are as many whatever the digit 0 looks like
pub count_alike : (base a b most n : ℕ) → length (digits most base a n) ≡ length (digits most base b n)
unfolding digits pick
count_alike base a b zero n = refl
count_alike base a b (suc most) n =
    by_test (ltb n base) (λ t. rw t)
    (λ t. rw t (simp length-append (ap (λ (k : ℕ). k + 1) (count_alike base a b most (n / base)))))

-- numbers take 21 bytes each at most: a tab and 20 digits
pub numbers_most : (ns : List ℕ) → length (numbers ns) ≤ 21 * length ns
numbers_most [] = omega arith
numbers_most (n ∷ ns) = omega (arith, numbers_most ns, digits_most 10 48 20 n, length-append (field n) (numbers ns))

-- the first of the numbers from place i on, and the others
pub numbers_next : (ns : List ℕ) (i : ℕ) → i < length ns → numbers (drop i ns) ≡ field (get_or ns i 0) ++ numbers (drop (i + 1) ns)
numbers_next ns i l = rw (add-one i, drop-cons ns i 0 l)
