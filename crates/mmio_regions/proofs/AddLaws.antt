-- What `add` leaves, for each of its three answers. Assumes nothing.
use mathlib.Core.Path.{◌≡◌, refl, sym, ap, ap₂, ◌∙◌}
use mathlib.Core.Bool.{Bool, true, false}
use Rattle.std.specs.Prelude.{Ok, Err}
use mathlib.Core.List.{List, [], ◌∷◌, ◌++◌, append_assoc}
use Prim.Native.Nat.{ℕ, ◌+◌, ◌-◌, ◌*◌, ◌≤◌, ◌<◌, max}
use native.Mathlib.Omega.{arith}
use lib.ListN.{length, take, drop, length-append}
use lib.Dec.{eqb}
use borrow.Author.Tests.{le-leb, lt-leb}
use Rattle.error.specs.Error.{done, number_of}
use Rattle.error.specs.declared.Error.{Error}
use Rattle.error.specs.declared.Error.TheVariants.{ReachedMaxNumberOfMmioRegions, OverlappingMmioRegion}
use Rattle.table_rows.specs.Rows.{put}
use Rattle.table_rows.specs.Choice.{pick}
use Rattle.table_rows.proofs.PickLaws.{yes, no}
use Rattle.mmio_regions.specs.Regions.{max_regions, any_overlaps, add_number, with_added}
use Rattle.mmio_regions.specs.Table.{region_words, standing, words_of, Sized, laid, table, addition, added}
use Rattle.confidential_vm_mmio_region.specs.declared.ConfidentialVmMmioRegion.{ConfidentialVmMmioRegion}
use Rattle.mmio_regions.proofs.TableLaws.{words_append, standing_length, standing_words, laid_same}

module _ (xs : List ℕ) (count : ℕ) (q : ConfidentialVmMmioRegion) (sized : Sized xs count) where
  abbrev rs : List ConfidentialVmMmioRegion
  rs = standing xs count

  -- a refusal leaves the table as it was
  refused : (e : Error) → number_of e ≡ add_number q rs → eqb (number_of e) done ≡ false → addition count (Err e) xs ≡ added xs count q
  unfolding added with_added
  refused _ e other =
      let same : rs ≡ pick (eqb (add_number q rs) done) (rs ++ (q ∷ [])) rs = no _ (ap (λ (n : ℕ). eqb n done) (sym e) ∙ other) refl in
      let length-same : count ≡ length (pick (eqb (add_number q rs) done) (rs ++ (q ∷ [])) rs) =
      sym (standing_length xs count) ∙ ap length same in
      λ i. record {
        number = e i;
        after = ap₂ table length-same (sym (laid_same xs count (omega arith)) ∙ ap (laid xs count) same) i;
      }

  pub add_full : max_regions ≤ count → addition count (Err ReachedMaxNumberOfMmioRegions) xs ≡ added xs count q
  unfolding add_number
  add_full full =
      refused ReachedMaxNumberOfMmioRegions
      (yes _ (le-leb max_regions (length rs) (omega (arith, standing_length xs count))) refl)
      refl

  module _ (room : count < max_regions) (overlapping : Bool) (e : overlapping ≡ any_overlaps q rs) where
    pub add_overlapping : overlapping ≡ true → addition count (Err OverlappingMmioRegion) xs ≡ added xs count q
    unfolding add_number
    add_overlapping t =
        refused OverlappingMmioRegion
        (no _ (lt-leb max_regions (length rs) (omega (arith, standing_length xs count))) (yes _ (sym e ∙ t) refl))
        refl

    add_number_lem : overlapping ≡ false → done ≡ add_number q rs
    unfolding add_number
    add_number_lem f = no _ (lt-leb max_regions (length rs) (omega (arith, standing_length xs count))) (no _ (sym e ∙ f) refl)

    -- one more stands
    length_more : count + 1 ≡ length (rs ++ (q ∷ []))
    length_more = simp length-append (omega (arith, standing_length xs count))

    -- the new region's place is that after the last
    laid_last : put region_words xs count (words_of (q ∷ [])) ≡ laid xs count (rs ++ (q ∷ []))
    unfolding laid put
    laid_last =
        let free : (count - (count + 1)) * region_words ≡ 0 = omega arith in
        let rest : max count (count + 1) * region_words ≡ count * region_words + region_words = omega arith in
        sym (rw (← length_more, free, rest, words_append rs (q ∷ []), standing_words xs count (omega arith))
        (append_assoc (take (count * region_words) xs) (words_of (q ∷ [])) (drop (count * region_words + region_words) xs)))

    pub add_done : overlapping ≡ false
        → addition count (Ok (count + 1)) (put region_words xs count (words_of (q ∷ []))) ≡ added xs count q
    unfolding added with_added
    add_done f =
        let more : rs ++ (q ∷ []) ≡ pick (eqb (add_number q rs) done) (rs ++ (q ∷ [])) rs =
        yes _ (ap (λ (n : ℕ). eqb n done) (sym (add_number_lem f))) refl in
        λ i. record {
          number = add_number_lem f i;
          after = ap₂ table (length_more ∙ ap length more) (laid_last ∙ ap (laid xs count) more) i;
        }
