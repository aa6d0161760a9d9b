-- Lists of regions: one more at the end, as a loop over them takes it, and what adding and removing leave. Assumes nothing.
use mathlib.Core.Path.{◌≡◌, refl, sym, ap, ◌∙◌}
use mathlib.Core.Bool.{Bool, true, false, ◌||◌, false≢true}
use mathlib.Core.List.{List, [], ◌∷◌, ◌++◌}
use Prim.Native.Nat.{◌≤◌, ◌<◌}
use native.Mathlib.Omega.{arith}
use lib.ListN.{length, length-append}
use lib.Dec.{eqb, leb}
use borrow.Author.Tests.{leb-false}
use Rattle.error.specs.Error.{done}
use Rattle.table_rows.specs.Choice.{pick}
use Rattle.table_rows.proofs.ListLaws.{all_last}
use Rattle.table_rows.proofs.PickLaws.{no, by_pick, by_test, and_left, and_right, and_both}
use Rattle.confidential_vm_mmio_region.specs.Region.{overlaps, ordered}
use Rattle.table_rows.specs.Lists.{any_of, all_of}
use Rattle.mmio_regions.specs.Regions.{max_regions, any_overlaps, add_number, with_added, with_removed}
use Rattle.confidential_vm_mmio_region.specs.declared.ConfidentialVmMmioRegion.{ConfidentialVmMmioRegion}

-- ---- one more region at the end

-- two choices, in either order
exchange : (a b : Bool) (x : ConfidentialVmMmioRegion) (ks ls : List ConfidentialVmMmioRegion)
    → pick a (pick b ks (ks ++ ls)) (x ∷ pick b ks (ks ++ ls)) ≡ pick b (pick a ks (x ∷ ks)) (pick a ks (x ∷ ks) ++ ls)
unfolding pick
exchange true b x ks ls = refl
exchange false true x ks ls = refl
exchange false false x ks ls = refl

pub removed_last : (q r : ConfidentialVmMmioRegion) (rs : List ConfidentialVmMmioRegion)
    → with_removed q (rs ++ (r ∷ [])) ≡ pick (overlaps r q) (with_removed q rs) (with_removed q rs ++ (r ∷ []))
unfolding with_removed
removed_last q r [] = refl
removed_last q r (x ∷ rs) =
    rw (removed_last q r rs) (exchange (overlaps x q) (overlaps r q) x (with_removed q rs) (r ∷ []))

-- none of two holds
or_left : (a b : Bool) → a || b ≡ false → a ≡ false
or_left true b e = e
or_left false b e = refl

or_right : (a b : Bool) → a || b ≡ false → b ≡ false
or_right true b e = cc
or_right false b e = e

-- ---- what a new region, adding and removing leave

module _ (q : ConfidentialVmMmioRegion) where
  -- what is added had room
  pub added_room : (rs : List ConfidentialVmMmioRegion) → eqb (add_number q rs) done ≡ true → length rs < max_regions
  unfolding add_number pick
  added_room rs e =
      by_test (leb max_regions (length rs))
      (λ t.
      by_test (any_overlaps q rs)
      (λ u. absurd (false≢true (simp (t, u) at e)))
      (λ u. absurd (false≢true (simp (t, u) at e))))
      (λ f. leb-false max_regions (length rs) f)

  pub added_few : (rs : List ConfidentialVmMmioRegion) → length rs ≤ max_regions → length (with_added q rs) ≤ max_regions
  unfolding with_added
  added_few rs few =
      by_pick (λ (s : List ConfidentialVmMmioRegion). length s ≤ max_regions) (eqb (add_number q rs) done) (rs ++ (q ∷ [])) rs
      (λ e. simp length-append (omega (arith, added_room rs e)))
      (λ e. few)

  pub added_ordered : (rs : List ConfidentialVmMmioRegion) → ordered q ≡ true → all_of ordered rs ≡ true → all_of ordered (with_added q rs) ≡ true
  unfolding with_added
  added_ordered rs new old =
      by_pick (λ (s : List ConfidentialVmMmioRegion). all_of ordered s ≡ true) (eqb (add_number q rs) done) (rs ++ (q ∷ [])) rs
      (λ e. all_last ordered q rs ∙ and_both old new)
      (λ e. old)

  -- where none overlaps, none is dropped
  pub removed_none : (rs : List ConfidentialVmMmioRegion) → any_overlaps q rs ≡ false → with_removed q rs ≡ rs
  unfolding any_of with_removed
  removed_none [] e = refl
  removed_none (r ∷ rs) e =
      sym (no (with_removed q rs) (or_left (overlaps r q) (any_overlaps q rs) e)
      (ap (λ (ks : List ConfidentialVmMmioRegion). r ∷ ks) (sym (removed_none rs (or_right (overlaps r q) (any_overlaps q rs) e)))))

  pub removed_few : (rs : List ConfidentialVmMmioRegion) → length (with_removed q rs) ≤ length rs
  unfolding with_removed
  removed_few [] = omega arith
  removed_few (r ∷ rs) =
      by_pick (λ (s : List ConfidentialVmMmioRegion). length s ≤ length (r ∷ rs)) (overlaps r q) (with_removed q rs) (r ∷ with_removed q rs)
      (λ e. omega (arith, removed_few rs))
      (λ e. omega (arith, removed_few rs))

  pub removed_ordered : (rs : List ConfidentialVmMmioRegion) → all_of ordered rs ≡ true → all_of ordered (with_removed q rs) ≡ true
  unfolding with_removed all_of
  removed_ordered [] old = refl
  removed_ordered (r ∷ rs) old =
      let rest : all_of ordered (with_removed q rs) ≡ true = removed_ordered rs (and_right (ordered r) (all_of ordered rs) old) in
      by_pick (λ (s : List ConfidentialVmMmioRegion). all_of ordered s ≡ true) (overlaps r q) (with_removed q rs) (r ∷ with_removed q rs)
      (λ e. rest)
      (λ e. and_both (and_left (ordered r) (all_of ordered rs) old) rest)
