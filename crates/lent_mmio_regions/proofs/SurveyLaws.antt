-- What one look through a run shows: whether the run is sound, and where it is, what stands in it. Assumes nothing.
use mathlib.Core.Path.{◌≡◌, refl, sym, ap, ◌∙◌}
use mathlib.Core.Bool.{Bool, true, false, ◌&&◌, ◌||◌, or-false, or_assoc, and-true, and-false, and_assoc}
use mathlib.Core.List.{List, [], ◌∷◌}
use Prim.Native.Nat.{ℕ, ◌+◌, ◌-◌, ◌≤◌}
use native.Mathlib.Nat.{le_refl, le_antisymm, le_of_lt}
use native.Mathlib.Omega.{arith}
use lib.ListN.{length, take, drop}
use lib.Seq.{length-take-le, take-add, drop_at}
use lib.Dec.{eqb, leb, ltb}
use lib.Bits.{bit_or}
use borrow.Author.Tests.{leb-true, leb-false, lt-ltb, le-ltb, ltb-true, ltb-false}
use Rattle.bits.proofs.BitLaws.{or_none}
use Rattle.table_rows.specs.Choice.{pick}
use Rattle.table_rows.specs.Lists.{any_of, all_of}
use Rattle.table_rows.proofs.PickLaws.{yes, no, by_pick, by_test, and_left, and_right}
use Rattle.confidential_vm_mmio_region.specs.declared.ConfidentialVmMmioRegion.{ConfidentialVmMmioRegion}
use Rattle.confidential_vm_mmio_region.specs.Region.{overlaps, contains, ordered}
use Rattle.mmio_regions.specs.Regions.{max_regions, any_overlaps, any_contains}
use Rattle.mmio_region_survey.specs.declared.Survey.{Survey}
use Rattle.mmio_region_survey.specs.Survey.{
  places_of,
  standing_of,
  unseen,
  seen_with,
  seen_through,
  joined_with,
  joined_through,
  judged_with,
  surveyed_to,
  surveyed,
}
use Rattle.lent_mmio_regions.specs.Run.{standing, is_unused, run_sound}

-- ---- how many records are judged, and how many of them stand

pub places_within : (room count : ℕ) → places_of room count ≤ room
unfolding places_of
places_within room count =
    by_pick (λ (n : ℕ). n ≤ room) (ltb room max_regions) 0 (pick (ltb max_regions count) 0 max_regions) (λ _. omega arith)
    (λ e. by_pick (λ (n : ℕ). n ≤ room) (ltb max_regions count) 0 max_regions (λ _. omega arith) (λ _. ltb-false room max_regions e))

-- all of them, where there is room and the count is in range
places_all : (room count : ℕ) → max_regions ≤ room → count ≤ max_regions → places_of room count ≡ max_regions
unfolding places_of
places_all room count long few = sym (no 0 (le-ltb room max_regions long) (no 0 (le-ltb max_regions count few) refl))

pub standing_within : (places count : ℕ) → standing_of places count ≤ places
unfolding standing_of
standing_within places count =
    by_pick (λ (n : ℕ). n ≤ places) (ltb count places) count places (λ e. le_of_lt (ltb-true count places e)) (λ _. le_refl places)

-- as many as the count says, where it is in range
standing_count : (places count : ℕ) → count ≤ places → standing_of places count ≡ count
unfolding standing_of
standing_count places count few =
    by_pick (λ (n : ℕ). n ≡ count) (ltb count places) count places (λ _. refl)
    (λ e. le_antisymm (ltb-false count places e) few)

-- ---- what the two looks give

-- the three together
abbrev seen : Bool → Bool → Bool → Survey
seen sound overlapping containing = record { sound = sound; overlapping = overlapping; containing = containing }

seen_same : {a b c d e f : Bool} → a ≡ d → b ≡ e → c ≡ f → seen a b c ≡ seen d e f
seen_same p q r = λ i. seen (p i) (q i) (r i)

-- regions that stand
seen_standing : (s : Survey) (q : ConfidentialVmMmioRegion) (xs : List ConfidentialVmMmioRegion)
    → seen_through s q xs ≡ seen (s.sound && all_of ordered xs) (s.overlapping || any_overlaps q xs) (s.containing || any_contains q xs)
unfolding all_of any_of
seen_standing s q [] = seen_same (sym (and-true s.sound)) (sym (or-false s.overlapping)) (sym (or-false s.containing))
seen_standing s q (x ∷ xs) =
    seen_standing (seen_with s x q) q xs
    ∙ seen_same
    (and_assoc s.sound (ordered x) (all_of ordered xs))
    (or_assoc s.overlapping (overlaps x q) (any_overlaps q xs))
    (or_assoc s.containing (contains x q) (any_contains q xs))

-- one more record keeps joined numbers 0 exactly when it is unused
joined_unused : (j : ℕ) (x : ConfidentialVmMmioRegion) → eqb (joined_with j x) 0 ≡ eqb j 0 && is_unused x
joined_unused j x =
    or_none (bit_or j x.base) x.end
    ∙ ap (λ (b : Bool). b && eqb x.end 0) (or_none j x.base)
    ∙ and_assoc (eqb j 0) (eqb x.base 0) (eqb x.end 0)

-- joined numbers are 0 exactly when each record is unused
joined_none : (j : ℕ) (xs : List ConfidentialVmMmioRegion) → eqb (joined_through j xs) 0 ≡ eqb j 0 && all_of is_unused xs
unfolding all_of
joined_none j [] = sym (and-true (eqb j 0))
joined_none j (x ∷ xs) =
    joined_none (joined_with j x) xs
    ∙ ap (λ (b : Bool). b && all_of is_unused xs) (joined_unused j x)
    ∙ and_assoc (eqb j 0) (is_unused x) (all_of is_unused xs)

-- the unused records of a run: those past the count among the first n
past_count : (rs : List ConfidentialVmMmioRegion) (count n : ℕ) → count ≤ n → n ≤ length rs
    → drop count (take n rs) ≡ take (n - count) (drop count rs)
past_count rs count n few long =
    let e : n ≡ count + (n - count) = omega arith in
    ap (λ (k : ℕ). drop count (take k rs)) e
    ∙ ap (drop count) (take-add count (n - count) rs)
    ∙ drop_at (take count rs) (take (n - count) (drop count rs)) count (length-take-le count rs (omega arith))

-- ---- the whole

module _ (rs : List ConfidentialVmMmioRegion) (count : ℕ) where
  abbrev long : Bool
  long = leb max_regions (length rs)

  abbrev few : Bool
  few = leb count max_regions

  abbrev upright : Bool
  upright = all_of ordered (standing rs count)

  abbrev empty : Bool
  empty = all_of is_unused (take (max_regions - count) (drop count rs))

  module _ (s : run_sound rs count ≡ true) where
    front : long && few && upright ≡ true
    unfolding run_sound
    front = and_left (long && few && upright) empty s

    sized : long && few ≡ true
    sized = and_left (long && few) upright front

    -- a sound run has room for 1,024 records
    pub sound_room : max_regions ≤ length rs
    sound_room = leb-true max_regions (length rs) (and_left long few sized)

    -- and at most 1,024 stand
    pub sound_few : count ≤ max_regions
    sound_few = leb-true count max_regions (and_right long few sized)

    -- and each that stands has base ≤ end
    pub sound_upright : all_of ordered (standing rs count) ≡ true
    sound_upright = and_right (long && few) upright front

  -- a run that is judged
  judged : (q : ConfidentialVmMmioRegion) → max_regions ≤ length rs → count ≤ max_regions
      → surveyed rs count q ≡ seen (upright && empty) (any_overlaps q (standing rs count)) (any_contains q (standing rs count))
  unfolding surveyed
  judged q room least =
      ap (λ (k : ℕ). surveyed_to rs (standing_of k count) k q) (places_all (length rs) count room least)
      ∙ ap (λ (k : ℕ). surveyed_to rs k max_regions q) (standing_count max_regions count least)
      ∙ ap (λ (z : Survey). judged_with z max_regions (joined_through 0 (drop count (take max_regions rs))))
      (seen_standing unseen q (take count rs))
      ∙ seen_same
      (ap (λ (b : Bool). b && eqb (joined_through 0 (drop count (take max_regions rs))) 0) (and-true upright)
      ∙ ap (λ (b : Bool). upright && b)
      (joined_none 0 (drop count (take max_regions rs)) ∙ ap (all_of is_unused) (past_count rs count max_regions least room)))
      refl
      refl

  -- a run that is too short, or with too large a count, is not judged
  not_judged : (q : ConfidentialVmMmioRegion) → places_of (length rs) count ≡ 0 → (surveyed rs count q).sound ≡ false
  unfolding surveyed
  not_judged q e =
      ap (λ (k : ℕ). (surveyed_to rs (standing_of k count) k q).sound) e
      ∙ ap (λ (b : Bool). b && eqb (joined_through 0 (drop (standing_of 0 count) (take 0 rs))) 0)
      (and-false (seen_through unseen q (take (standing_of 0 count) rs)).sound)

  pub survey_sound : (q : ConfidentialVmMmioRegion) → (surveyed rs count q).sound ≡ run_sound rs count
  unfolding run_sound places_of
  survey_sound q =
      by_test long
      (λ l.
      by_test few
      (λ f.
      ap (λ (z : Survey). z.sound) (judged q (leb-true max_regions (length rs) l) (leb-true count max_regions f))
      ∙ rw (l, f))
      (λ f.
      not_judged q (sym (no 0 (le-ltb (length rs) max_regions (leb-true max_regions (length rs) l))
      (yes max_regions (lt-ltb max_regions count (leb-false count max_regions f)) refl)))
      ∙ rw (l, f)))
      (λ l.
      not_judged q
      (sym (yes (pick (ltb max_regions count) 0 max_regions) (lt-ltb (length rs) max_regions (leb-false max_regions (length rs) l)) refl))
      ∙ rw l)

  module _ (q : ConfidentialVmMmioRegion) (s : run_sound rs count ≡ true) where
    pub survey_overlapping : (surveyed rs count q).overlapping ≡ any_overlaps q (standing rs count)
    survey_overlapping = ap (λ (z : Survey). z.overlapping) (judged q (sound_room s) (sound_few s))

    pub survey_containing : (surveyed rs count q).containing ≡ any_contains q (standing rs count)
    survey_containing = ap (λ (z : Survey). z.containing) (judged q (sound_room s) (sound_few s))
