-- The harts of a list, by the one bit that can name a hart. Assumes nothing.
use mathlib.Core.Path.{◌≡◌, ap, ◌∙◌}
use mathlib.Core.Logic.{◌≢◌}
use mathlib.Core.Bool.{true, ◌&&◌, ◌||◌}
use Prim.Native.Nat.{ℕ, ◌+◌, ◌-◌, ◌*◌, ◌^◌, ◌<◌, ◌≤◌}
use native.Mathlib.Omega.{arith}
use lib.Dec.{eqb, leb, ltb}
use borrow.Author.Tests.{eq-eqb, ne_eqb, eqb-true, eqb-false, le-leb, leb-true, lt-ltb, ltb-true}
use Rattle.bits.specs.Bit.{bit, set_bit}
use Rattle.bits.proofs.BitLaws.{bit_above, set_same, set_other}
use Rattle.table_rows.proofs.PickLaws.{by_test, and_left, and_right, and_both}
use Rattle.confidential_hart_remote_command.specs.declared.ConfidentialHartRemoteCommand.{ConfidentialHartRemoteCommand}
use Rattle.confidential_hart_remote_command.specs.Command.{shutdown_request}
use Rattle.confidential_hart_remote_command.specs.Selection.{xlen, minus_one, in_hart_list, selects, mask_selects}
use Rattle.table_rows.proofs.ExistsLaws.{exists_is}

module _ (mask base h : ℕ) where
  -- the bit that names h, where there is one
  named : leb base h && (ltb (h - base) xlen && eqb (bit (h - base) mask) 1) ≡ true
      → (h - base < xlen) × (eqb (bit (h - base) mask) 1 && eqb h (base + (h - base)) ≡ true)
  named e =
      let l : base ≤ h = leb-true base h (and_left _ _ e) in
      let r = and_right (leb base h) _ e in
      let n : eqb h (base + (h - base)) ≡ true = eq-eqb h (base + (h - base)) (omega arith) in
      (ltb-true _ _ (and_left _ _ r), and_both {a = eqb (bit (h - base) mask) 1} (and_right (ltb (h - base) xlen) _ r) n)

  -- for every mask, base and hart: the list as SBI words it, and the one bit
  pub hart_list : in_hart_list mask base h ≡ mask_selects mask base h
  unfolding in_hart_list mask_selects
  hart_list =
      ap (◌||◌ (eqb base minus_one))
      (exists_is (λ i. eqb (bit i mask) 1 && eqb h (base + i)) xlen _ (h - base) named
      (λ i l e.
      let q : h ≡ base + i = eqb-true h (base + i) (and_right (eqb (bit i mask) 1) _ e) in
      let d : i ≡ h - base = omega arith in
      and_both {a = leb base h} (le-leb base h (omega arith))
      (and_both {a = ltb (h - base) xlen} (lt-ltb (h - base) xlen (omega arith)) (rw d at (and_left (eqb (bit i mask) 1) _ e)))))

pub selects_by_bit : (c : ConfidentialHartRemoteCommand) (h : ℕ) → selects c h ≡ eqb c.kind shutdown_request || mask_selects c.mask c.base h
unfolding selects
selects_by_bit c h = ap (◌||◌ (eqb c.kind shutdown_request)) (hart_list c.mask c.base h)

-- ---- a mask of one bit

pow_set : (d : ℕ) → set_bit d 0 ≡ 2 ^ d
unfolding set_bit
pow_set d = omega (arith, ap (λ (n : ℕ). (1 - n) * 2 ^ d) (bit_above 0 d 0 (omega arith) (omega arith)))

-- it selects one hart only
pub one_bit : (d base h : ℕ) → d < xlen → base ≢ minus_one → in_hart_list (2 ^ d) base h ≡ eqb h (base + d)
unfolding in_hart_list
one_bit d base h l ne =
    rw (ne_eqb base minus_one ne)
    (exists_is (λ i. eqb (bit i (2 ^ d)) 1 && eqb h (base + i)) xlen (eqb h (base + d)) d
    (λ e. (l, and_both {a = eqb (bit d (2 ^ d)) 1} (eq-eqb _ _ (rw (pow_set d) at (set_same d 0))) e))
    (λ i b e.
    let one : bit i (2 ^ d) ≡ 1 = eqb-true _ _ (and_left (eqb (bit i (2 ^ d)) 1) _ e) in
    let there : eqb h (base + i) ≡ true = and_right (eqb (bit i (2 ^ d)) 1) _ e in
    by_test (eqb i d) (λ p. rw (eqb-true i d p) at there)
    (λ p.
    let none : bit i (2 ^ d) ≡ 0 = rw (pow_set d) at (set_other i d 0 (eqb-false i d p)) ∙ bit_above 0 i 0 (omega arith) (omega arith) in
    absurd (omega arith))))
