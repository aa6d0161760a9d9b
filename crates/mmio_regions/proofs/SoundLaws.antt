-- A sound region table: its parts, and that adding and removing leave it sound. Assumes nothing.
use mathlib.Core.Path.{◌≡◌, sym, ap, ◌∙◌}
use mathlib.Core.Bool.{Bool, true, ◌&&◌}
use mathlib.Core.List.{List, ◌++◌, append_assoc}
use Prim.Native.Nat.{ℕ, ◌+◌, ◌-◌, ◌*◌, ◌≤◌, max}
use native.Mathlib.Nat.{add-sub_of_le}
use native.Mathlib.Omega.{arith}
use lib.ListN.{length, take, drop, replicate, length-take, length-drop, length-replicate, take-append-drop, replicate-append-replicate}
use lib.Seq.{take_at, drop_at, drop-drop}
use lib.Dec.{leb}
use borrow.Author.Tests.{leb-true, le-leb}
use Rattle.table_rows.specs.Choice.{all_zero}
use Rattle.table_rows.proofs.PickLaws.{and_left, and_right, and_both}
use Rattle.table_rows.proofs.ZeroLaws.{zeros_all_zero, all_zero_zeros}
use Rattle.confidential_vm_mmio_region.specs.Region.{ordered}
use Rattle.table_rows.specs.Lists.{all_of}
use Rattle.mmio_regions.specs.Regions.{max_regions, with_added, with_removed}
use Rattle.mmio_regions.specs.Table.{region_words, standing, words_of, unused, regions_sound, Sized, laid, added, removed}
use Rattle.confidential_vm_mmio_region.specs.declared.ConfidentialVmMmioRegion.{ConfidentialVmMmioRegion}
use Rattle.mmio_regions.proofs.RegionLaws.{added_few, added_ordered, removed_few, removed_ordered}
use Rattle.mmio_regions.proofs.TableLaws.{words_length, standing_length, standing_laid, laid_length}

-- the unused places, as the code takes them
pub unused_part : (xs : List ℕ) (count : ℕ) → take (max_regions * region_words - count * region_words) (drop (count * region_words) xs) ≡ unused xs count
unused_part xs count =
    let e : max_regions * region_words - count * region_words ≡ (max_regions - count) * region_words = omega arith in
    ap (λ (n : ℕ). take n (drop (count * region_words) xs)) e

-- ---- the parts of soundness

pub record Sound (xs : List ℕ) (count : ℕ) : Type 0 where
  pub sized : Sized xs count
  pub upright : all_of ordered (standing xs count) ≡ true
  pub empty : all_zero (unused xs count) ≡ true

module _ (xs : List ℕ) (count : ℕ) where
  abbrev long : Bool
  long = leb (max_regions * region_words) (length xs)

  abbrev few : Bool
  few = leb count max_regions

  abbrev all : Bool
  all = all_of ordered (standing xs count)

  pub sound_parts : regions_sound xs count ≡ true → Sound xs count
  unfolding regions_sound
  sound_parts s =
      let front : long && few && all ≡ true = and_left (long && few && all) (all_zero (unused xs count)) s in
      let size : long && few ≡ true = and_left (long && few) all front in
      record {
        sized = record {
          room = leb-true (max_regions * region_words) (length xs) (and_left long few size);
          few = leb-true count max_regions (and_right long few size);
        };
        upright = and_right (long && few) all front;
        empty = and_right (long && few && all) (all_zero (unused xs count)) s;
      }

  pub sound_of : Sound xs count → regions_sound xs count ≡ true
  unfolding regions_sound
  sound_of s =
      and_both
      (and_both
      (and_both (le-leb (max_regions * region_words) (length xs) s.sized.room) (le-leb count max_regions s.sized.few))
      s.upright)
      s.empty

  -- a sound table has the lengths that add and remove ask for
  pub sound_sized : regions_sound xs count ≡ true → Sized xs count
  sound_sized s = (sound_parts s).sized

-- ---- unused places of 0 are a run of zeros before what lies past the table

module _ (xs : List ℕ) (count : ℕ) where
  abbrev left : ℕ
  left = (max_regions - count) * region_words

  empty_zeros : Sound xs count → drop (count * region_words) xs ≡ replicate left 0 ++ drop (max_regions * region_words) xs
  empty_zeros s =
      let l : length (unused xs count) ≡ left = simp (length-take, length-drop) (omega (arith, s.sized.room, s.sized.few)) in
      let z : unused xs count ≡ replicate left 0 = all_zero_zeros (unused xs count) s.empty ∙ ap (λ (k : ℕ). replicate k 0) l in
      let e : count * region_words + left ≡ max_regions * region_words = omega (arith, s.sized.few) in
      sym (take-append-drop left (drop (count * region_words) xs)) ∙ rw (z, drop-drop left (count * region_words) xs, e)

  zeros_empty : (ys : List ℕ) → drop (count * region_words) xs ≡ replicate left 0 ++ ys → all_zero (unused xs count) ≡ true
  zeros_empty ys e = rw (e, take_at (replicate left 0) ys left (length-replicate left 0)) (zeros_all_zero left)

-- a run of zeros before past: some dropped, and more of them put before it
module _ (past : List ℕ) where
  more_zeros : (a b : ℕ) → replicate a 0 ++ (replicate b 0 ++ past) ≡ replicate (a + b) 0 ++ past
  more_zeros a b = sym (append_assoc (replicate a 0) (replicate b 0) past) ∙ ap (λ (zs : List ℕ). zs ++ past) (replicate-append-replicate a b 0)

  drop_zeros : (m k : ℕ) → k ≤ m → drop k (replicate m 0 ++ past) ≡ replicate (m - k) 0 ++ past
  drop_zeros m k l =
      let e : m ≡ k + (m - k) = sym (add-sub_of_le l) in
      ap (λ (n : ℕ). drop k (replicate n 0 ++ past)) e
      ∙ ap (drop k) (sym (more_zeros k (m - k)))
      ∙ drop_at (replicate k 0) (replicate (m - k) 0 ++ past) k (length-replicate k 0)

-- ---- a sound table stays sound, whatever regions are laid into it

-- n regions stand where count stood: the places freed are made 0, and those newly taken were 0
zeros_moved : (past ys : List ℕ) (count n : ℕ) → count ≤ max_regions → n ≤ max_regions → ys ≡ replicate ((max_regions - count) * region_words) 0 ++ past
    → replicate ((count - n) * region_words) 0 ++ drop ((n - count) * region_words) ys ≡ replicate ((max_regions - n) * region_words) 0 ++ past
zeros_moved past ys count n old new e =
    let l : (n - count) * region_words ≤ (max_regions - count) * region_words = omega arith in
    let sum : (count - n) * region_words + ((max_regions - count) * region_words - (n - count) * region_words) ≡ (max_regions - n) * region_words = omega arith in
    rw (e, drop_zeros past ((max_regions - count) * region_words) ((n - count) * region_words) l)
    (more_zeros past ((count - n) * region_words) _ ∙ ap (λ (k : ℕ). replicate k 0 ++ past) sum)

module _ (xs : List ℕ) (count : ℕ) (s : regions_sound xs count ≡ true) where
  module _ (rs : List ConfidentialVmMmioRegion) (few : length rs ≤ max_regions) where
    laid_zeros : drop (length rs * region_words) (laid xs count rs)
        ≡ replicate ((max_regions - length rs) * region_words) 0 ++ drop (max_regions * region_words) xs
    unfolding laid
    laid_zeros =
        let e : max count (length rs) * region_words ≡ count * region_words + (length rs - count) * region_words = omega arith in
        drop_at (words_of rs) _ (length rs * region_words) (words_length rs)
        ∙ rw (e, ← (drop-drop ((length rs - count) * region_words) (count * region_words) xs))
        (zeros_moved (drop (max_regions * region_words) xs) (drop (count * region_words) xs) count (length rs) (sound_sized xs count s).few few
        (empty_zeros xs count (sound_parts xs count s)))

    pub laid_sound : all_of ordered rs ≡ true → regions_sound (laid xs count rs) (length rs) ≡ true
    laid_sound o =
        let room : Sized xs count = sound_sized xs count s in
        sound_of (laid xs count rs) (length rs) (record {
          sized = record { room = rw (laid_length xs count rs (omega arith) (omega arith)) room.room; few = few };
          upright = rw (standing_laid xs count rs) o;
          empty = zeros_empty (laid xs count rs) (length rs) _ laid_zeros;
        })

-- ---- add and remove: what stands then, how long the words are, and that a sound table stays sound

module _ (xs : List ℕ) (count : ℕ) (q : ConfidentialVmMmioRegion) where
  pub added_standing : standing (added xs count q).after.words (added xs count q).after.count ≡ with_added q (standing xs count)
  unfolding added
  added_standing = standing_laid xs count (with_added q (standing xs count))

  pub removed_standing : standing (removed xs count q).words (removed xs count q).count ≡ with_removed q (standing xs count)
  unfolding removed
  removed_standing = standing_laid xs count (with_removed q (standing xs count))

  module _ (sized : Sized xs count) where
    few_added : length (with_added q (standing xs count)) ≤ max_regions
    few_added = added_few q (standing xs count) (rw (standing_length xs count) sized.few)

    few_removed : length (with_removed q (standing xs count)) ≤ max_regions
    few_removed = omega (arith, removed_few q (standing xs count), standing_length xs count)

    pub added_length : length (added xs count q).after.words ≡ length xs
    unfolding added
    added_length = laid_length xs count (with_added q (standing xs count)) (omega arith) (omega (arith, few_added))

    pub removed_length : length (removed xs count q).words ≡ length xs
    unfolding removed
    removed_length = laid_length xs count (with_removed q (standing xs count)) (omega arith) (omega (arith, few_removed))

  module _ (s : regions_sound xs count ≡ true) where
    pub added_sound : ordered q ≡ true → regions_sound (added xs count q).after.words (added xs count q).after.count ≡ true
    unfolding added
    added_sound new =
        laid_sound xs count s (with_added q (standing xs count)) (few_added (sound_sized xs count s))
        (added_ordered q (standing xs count) new (sound_parts xs count s).upright)

    pub removed_sound : regions_sound (removed xs count q).words (removed xs count q).count ≡ true
    unfolding removed
    removed_sound =
        laid_sound xs count s (with_removed q (standing xs count)) (few_removed (sound_sized xs count s))
        (removed_ordered q (standing xs count) (sound_parts xs count s).upright)
