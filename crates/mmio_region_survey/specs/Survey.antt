-- What the steps of the three requests give: one look at each record of a run, and the answers made of it. `lent_mmio_regions` says what
-- the requests promise.
use Rattle.std.specs.Prelude.{ℕ, ◌+◌, Bool, true, false, ◌&&◌, ◌||◌, not, List, length, take, drop, fold, Result, eqb, leb, ltb}
use Rattle.std.specs.Result.{result_unwrap_or}
use Rattle.std.specs.Int.Bits.{bit_or}
use Rattle.error.specs.declared.Error.{Error}
use Rattle.error.specs.Error.{done, number_in, reached_max_number_of_mmio_regions, overlapping_mmio_region, tables_not_sound}
use Rattle.table_rows.specs.Choice.{pick}
use Rattle.confidential_vm_mmio_region.specs.declared.ConfidentialVmMmioRegion.{ConfidentialVmMmioRegion}
use Rattle.confidential_vm_mmio_region.specs.Region.{region_of, new_region, overlaps, contains, ordered}
use Rattle.mmio_regions.specs.Regions.{max_regions}
use Rattle.mmio_region_survey.specs.declared.Changed.{Changed}
use Rattle.mmio_region_survey.specs.declared.Defined.{Defined}
use Rattle.mmio_region_survey.specs.declared.Survey.{Survey}
use Rattle.mmio_region_survey.specs.declared.Kept.{Kept}

-- how many records are judged: all 1,024, or none where the run is too short or the count too large
unfoldable pub places_of : ℕ → ℕ → ℕ
places_of room count = pick (ltb room max_regions) 0 (pick (ltb max_regions count) 0 max_regions)

-- how many of them stand
unfoldable pub standing_of : ℕ → ℕ → ℕ
standing_of places count = pick (ltb count places) count places

-- before the first look
abbrev pub unseen : Survey
unseen = record { sound = true; overlapping = false; containing = false }

-- with one more region that stands
abbrev pub seen_with : Survey → ConfidentialVmMmioRegion → ConfidentialVmMmioRegion → Survey
seen_with s r q = record {
  sound = s.sound && ordered r;
  overlapping = s.overlapping || overlaps r q;
  containing = s.containing || contains r q;
}

-- with each of rs
abbrev pub seen_through : Survey → ConfidentialVmMmioRegion → List ConfidentialVmMmioRegion → Survey
seen_through s q rs = fold (λ t r. seen_with t r q) s rs

-- the numbers of unused records joined, with one more and with each of rs
abbrev pub joined_with : ℕ → ConfidentialVmMmioRegion → ℕ
joined_with joined r = bit_or (bit_or joined r.base) r.end

abbrev pub joined_through : ℕ → List ConfidentialVmMmioRegion → ℕ
joined_through joined rs = fold joined_with joined rs

-- with the numbers of the unused records joined; a run of which nothing is judged is not sound
abbrev pub judged_with : Survey → ℕ → ℕ → Survey
judged_with s places joined = record {
  sound = s.sound && not (eqb places 0) && eqb joined 0;
  overlapping = s.overlapping;
  containing = s.containing;
}

-- one look through a run: first at the regions that stand, then at the unused records
abbrev pub surveyed_to : List ConfidentialVmMmioRegion → ℕ → ℕ → ConfidentialVmMmioRegion → Survey
surveyed_to records standing places q =
    judged_with (seen_through unseen q (take standing records)) places (joined_through 0 (drop standing (take places records)))

unfoldable pub surveyed : List ConfidentialVmMmioRegion → ℕ → ConfidentialVmMmioRegion → Survey
surveyed records count q =
    let places = places_of (length records) count in
    surveyed_to records (standing_of places count) places q

-- 12, then 11, else 0
unfoldable pub refusal : Survey → ℕ → ℕ → ℕ
refusal s base size = pick (not s.sound) tables_not_sound (number_in (new_region base size))

-- a number with a count
abbrev pub changed : ℕ → ℕ → Changed
changed number count = record { number = number; count = count }

-- what adding or removing gives back where count regions stood: a refusal keeps the count
abbrev pub changed_by : ℕ → Result ℕ Error → Changed
changed_by count answer = changed (number_in answer) (result_unwrap_or answer count)

-- what adding answers: 12, 11, 9, 10
unfoldable pub add_answer : Survey → ℕ → ℕ → ℕ → Changed
add_answer s count base size =
    pick (not (eqb (refusal s base size) done)) (changed (refusal s base size) count)
    (pick (leb max_regions count) (changed reached_max_number_of_mmio_regions count)
    (pick s.overlapping (changed overlapping_mmio_region count)
    (changed done (count + 1))))

-- what asking for a region gives back: a refusal says no
abbrev pub defined_by : Result Bool Error → Defined
defined_by answer = record { number = number_in answer; defined = result_unwrap_or answer false }

-- what asking for a region answers
unfoldable pub defined_answer : Survey → ℕ → ℕ → Defined
defined_answer s base size = record { number = refusal s base size; defined = eqb (refusal s base size) done && s.containing }

-- what is written to the next free place, and which place is next then
unfoldable pub kept_of : ℕ → ConfidentialVmMmioRegion → ConfidentialVmMmioRegion → Kept
kept_of next r q = pick (overlaps r q) (record { region = region_of 0 0; next = next }) (record { region = r; next = next + 1 })
