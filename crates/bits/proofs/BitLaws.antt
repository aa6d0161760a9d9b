-- Masks and shifts against the plain definitions of bits, and what a bit is after a change: each law once, over the bit number. Assumes nothing.
use mathlib.Core.Path.{◌≡◌, refl, sym, ap, ap₂, ◌∙◌}
use mathlib.Core.Logic.{◌≢◌}
use mathlib.Core.Bool.{◌&&◌}
use Prim.Native.Nat.{ℕ, zero, suc, ◌+◌, ◌-◌, ◌*◌, ◌/◌, ◌%◌, ◌^◌, ◌≤◌, ◌<◌, min, max}
use native.Mathlib.Nat.{pow-suc, mod-lt, add-zero, one-mul, zero-lt-suc, mul_assoc, div-one, mod-eq_of_lt, div-eq_of_lt, lt_of_lt_of_le}
use native.Mathlib.Omega.{arith}
use native.Mathlib.Numerals.{one-add}
use lib.Dec.{eqb, eqb-suc-zero}
use lib.Arith.{lt-one, bin_ind}
use lib.Pow.{pow_pos, pow-lt, pow_mono, split, shr-shr}
use lib.Bits.{bit_and, bit_or, and_step, and_block, and_mask, and_zero_r, and_le_l, and_le_r, or_add_and, or_lt, or_shr, or_step, or_zero_l}
use borrow.Author.Tests.{ne_eqb}
use Rattle.bits.specs.Bit.{bit, clear_bit, set_bit}

-- ---- a number, bit by bit

pub bit_lt : (d x : ℕ) → bit d x < 2
bit_lt d x = mod-lt (x / 2 ^ d) (zero-lt-suc 1)

pub bit_zero : (x : ℕ) → bit 0 x ≡ x % 2
bit_zero x = ap (λ (n : ℕ). n % 2) (div-one x)

pub bit_suc : (d x : ℕ) → bit (suc d) x ≡ bit d (x / 2)
bit_suc d x = ap (λ (n : ℕ). x / 2 ^ n % 2) (sym (one-add d)) ∙ ap (λ (n : ℕ). n % 2) (sym (shr-shr x 1 d))

-- bit d + 1 has twice the weight in x that bit d has in half of x
weight_suc : (d x : ℕ) → bit (suc d) x * 2 ^ suc d ≡ bit d (x / 2) * 2 ^ d * 2
weight_suc d x = ap₂ (λ (u v : ℕ). u * v) (bit_suc d x) (pow-suc 2 d) ∙ sym (mul_assoc (bit d (x / 2)) (2 ^ d) 2)

-- equal bits, equal numbers
zero_by_bits : (y : ℕ) → ((j : ℕ) → bit j 0 ≡ bit j y) → 0 ≡ y
zero_by_bits =
    bin_ind (λ (y : ℕ). ((j : ℕ) → bit j 0 ≡ bit j y) → 0 ≡ y) (λ h. refl)
    (λ y ih h. omega (arith, ih (λ j. sym (bit_suc j 0) ∙ h (suc j) ∙ bit_suc j y), bit_zero 0, h 0, bit_zero y))

pub bits_ext : (x y : ℕ) → ((j : ℕ) → bit j x ≡ bit j y) → x ≡ y
bits_ext =
    bin_ind (λ (x : ℕ). (y : ℕ) → ((j : ℕ) → bit j x ≡ bit j y) → x ≡ y) zero_by_bits
    (λ x ih y h. omega (arith, ih (y / 2) (λ j. sym (bit_suc j x) ∙ h (suc j) ∙ bit_suc j y), bit_zero x, h 0, bit_zero y))

-- ---- the code's masks, at k binary digits: `1 << d` is 1 * 2 ^ d % 2 ^ k, and `!m` is (2 ^ k - 1) - m

shl_one : (k d : ℕ) → d < k → 1 * 2 ^ d % 2 ^ k ≡ 2 ^ d
shl_one k d h = rw (one-mul (2 ^ d)) (mod-eq_of_lt (pow-lt h))

-- a mask's complement takes away what the mask keeps
min_not : (a b : ℕ) → a < 2 → b < 2 → min a (1 - b) + min a b ≡ a
min_not a b ha hb = omega arith

pub and_not : (k x m : ℕ) → x < 2 ^ k → m < 2 ^ k → bit_and x ((2 ^ k - 1) - m) + bit_and x m ≡ x
and_not zero x m hx hm = rw (lt-one hx)
and_not (suc k) x m hx hm =
    let p : 2 ^ suc k ≡ 2 ^ k * 2 = pow-suc 2 k in
    let q : 1 ≤ 2 ^ k = pow_pos k in
    let dv : ((2 ^ suc k - 1) - m) / 2 ≡ (2 ^ k - 1) - m / 2 = omega arith in
    let md : ((2 ^ suc k - 1) - m) % 2 ≡ 1 - m % 2 = omega arith in
    let ih : bit_and (x / 2) ((2 ^ k - 1) - m / 2) + bit_and (x / 2) (m / 2) ≡ x / 2 = and_not k (x / 2) (m / 2) (omega arith) (omega arith) in
    let s : bit_and x ((2 ^ suc k - 1) - m) ≡ bit_and (x / 2) ((2 ^ k - 1) - m / 2) * 2 + min (x % 2) (1 - m % 2) =
    and_step x ((2 ^ suc k - 1) - m) ∙ ap₂ (λ (u v : ℕ). bit_and (x / 2) u * 2 + min (x % 2) v) dv md in
    omega (arith, and_step x m, min_not (x % 2) (m % 2) (omega arith) (omega arith))

-- a mask of one bit keeps that bit
pub and_pow : (x d : ℕ) → bit_and x (2 ^ d) ≡ bit d x * 2 ^ d
and_pow x d =
    ap₂ bit_and (sym (split x d)) (sym (add-zero (1 * 2 ^ d) ∙ one-mul (2 ^ d)))
    ∙ and_block d (x / 2 ^ d) 1 (x % 2 ^ d) 0 (mod-lt x (pow_pos d)) (pow_pos d)
    ∙ ap₂ (λ (u v : ℕ). u * 2 ^ d + v) (and_mask (x / 2 ^ d) 1) (and_zero_r (x % 2 ^ d))
    ∙ add-zero (bit d x * 2 ^ d)

-- `(x >> d) & 1`
pub shr_and : (x d : ℕ) → bit_and (x / 2 ^ d) 1 ≡ bit d x
shr_and x d = and_mask (x / 2 ^ d) 1

-- `x & !(1 << d)`
pub and_clear : (k x d : ℕ) → x < 2 ^ k → d < k → bit_and x ((2 ^ k - 1) - 1 * 2 ^ d % 2 ^ k) ≡ clear_bit d x
unfolding clear_bit
and_clear k x d hx hd =
    ap (λ (m : ℕ). bit_and x ((2 ^ k - 1) - m)) (shl_one k d hd)
    ∙ omega (arith, and_not k x (2 ^ d) hx (pow-lt hd), and_pow x d)

-- `x | (1 << d)`
bit_or_not : (b p : ℕ) → b < 2 → b * p + (1 - b) * p ≡ p
bit_or_not zero p h = omega arith
bit_or_not (suc zero) p h = omega arith
bit_or_not (suc (suc b)) p h = absurd (omega arith)

pub or_set : (k x d : ℕ) → d < k → bit_or x (1 * 2 ^ d % 2 ^ k) ≡ set_bit d x
unfolding set_bit
or_set k x d hd =
    ap (bit_or x) (shl_one k d hd)
    ∙ omega (arith, or_add_and x (2 ^ d), and_pow x d, bit_or_not (bit d x) (2 ^ d) (bit_lt d x))

-- ---- bit j afterwards

clear_zero : (x : ℕ) → clear_bit 0 x ≡ x / 2 * 2 + 0
unfolding clear_bit
clear_zero x = omega (arith, bit_zero x)

clear_suc : (d x : ℕ) → clear_bit (suc d) x ≡ clear_bit d (x / 2) * 2 + x % 2
unfolding clear_bit
clear_suc d x = omega (arith, weight_suc d x, and_pow (x / 2) d, and_le_l (x / 2) (2 ^ d))

set_zero : (x : ℕ) → set_bit 0 x ≡ x / 2 * 2 + 1
unfolding set_bit
set_zero x = omega (arith, bit_zero x)

set_suc : (d x : ℕ) → set_bit (suc d) x ≡ set_bit d (x / 2) * 2 + x % 2
unfolding set_bit
set_suc d x =
    let e : (1 - bit (suc d) x) * 2 ^ suc d ≡ (1 - bit d (x / 2)) * 2 ^ d * 2 =
    ap₂ (λ (u v : ℕ). (1 - u) * v) (bit_suc d x) (pow-suc 2 d) ∙ sym (mul_assoc (1 - bit d (x / 2)) (2 ^ d) 2) in
    omega arith

-- a change f of the one bit d, to v
module _ (f : ℕ → ℕ → ℕ) (v : ℕ) (hv : v < 2) (f0 : (x : ℕ) → f 0 x ≡ x / 2 * 2 + v) (fs : (d x : ℕ) → f (suc d) x ≡ f d (x / 2) * 2 + x % 2) where
  changed : (d x : ℕ) → bit d (f d x) ≡ v
  changed zero x = bit_zero (f 0 x) ∙ omega (arith, f0 x)
  changed (suc d) x = bit_suc d (f (suc d) x) ∙ ap (bit d) (omega (arith, fs d x)) ∙ changed d (x / 2)

  kept : (j d x : ℕ) → j ≢ d → bit j (f d x) ≡ bit j x
  kept zero zero x ne = absurd (ne refl)
  kept (suc j) zero x ne = bit_suc j (f 0 x) ∙ ap (bit j) (omega (arith, f0 x)) ∙ sym (bit_suc j x)
  kept zero (suc d) x ne = bit_zero (f (suc d) x) ∙ omega (arith, fs d x) ∙ sym (bit_zero x)
  kept (suc j) (suc d) x ne =
      bit_suc j (f (suc d) x) ∙ ap (bit j) (omega (arith, fs d x)) ∙ kept j d (x / 2) (λ e. ne (ap suc e))
      ∙ sym (bit_suc j x)

pub clear_same : (d x : ℕ) → bit d (clear_bit d x) ≡ 0
clear_same = changed clear_bit 0 (omega arith) clear_zero clear_suc

pub clear_other : (j d x : ℕ) → j ≢ d → bit j (clear_bit d x) ≡ bit j x
clear_other = kept clear_bit 0 (omega arith) clear_zero clear_suc

pub set_same : (d x : ℕ) → bit d (set_bit d x) ≡ 1
set_same = changed set_bit 1 (omega arith) set_zero set_suc

pub set_other : (j d x : ℕ) → j ≢ d → bit j (set_bit d x) ≡ bit j x
set_other = kept set_bit 1 (omega arith) set_zero set_suc

-- ---- two numbers joined: `x | y`

max_mod : (u v : ℕ) → max (u % 2) (v % 2) % 2 ≡ max (u % 2) (v % 2)
max_mod u v = omega arith

pub bit_or_lem : (j x y : ℕ) → bit j (bit_or x y) ≡ max (bit j x) (bit j y)
bit_or_lem j x y =
    ap (λ (n : ℕ). n % 2) (or_shr x y j)
    ∙ omega (arith, or_step (x / 2 ^ j) (y / 2 ^ j), max_mod (x / 2 ^ j) (y / 2 ^ j))

-- joining takes nothing away
pub or_le_l : (x y : ℕ) → x ≤ bit_or x y
or_le_l x y = omega (arith, or_add_and x y, and_le_r x y)

pub or_le_r : (x y : ℕ) → y ≤ bit_or x y
or_le_r x y = omega (arith, or_add_and x y, and_le_l x y)

-- a joined number is 0 exactly when both are
pub or_none : (x y : ℕ) → eqb (bit_or x y) 0 ≡ eqb x 0 && eqb y 0
or_none zero y = ap (λ (n : ℕ). eqb n 0) (or_zero_l y)
or_none (suc x) y = rw (eqb-suc-zero x) (ne_eqb (bit_or (suc x) y) 0 (λ e. omega (arith, or_le_l (suc x) y)))

-- ---- what fits k binary digits

-- there is no bit past the digits
pub bit_above : (k d x : ℕ) → x < 2 ^ k → k ≤ d → bit d x ≡ 0
bit_above k d x hx hd = ap (λ (n : ℕ). n % 2) (div-eq_of_lt (lt_of_lt_of_le hx (pow_mono hd)))

pub clear_le : (d x : ℕ) → clear_bit d x ≤ x
unfolding clear_bit
clear_le d x = omega arith

pub set_lt : (k d x : ℕ) → x < 2 ^ k → d < k → set_bit d x < 2 ^ k
set_lt k d x hx hd = rw (← (or_set k x d hd), shl_one k d hd) (or_lt k x (2 ^ d) hx (pow-lt hd))
