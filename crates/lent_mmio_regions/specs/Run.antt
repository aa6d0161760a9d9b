-- A lent run of region records with its count: the first count stand; what lies past the 1,024th belongs to no table.
use Rattle.std.specs.Prelude.{ℕ, ◌+◌, ◌-◌, max, Bool, false, ◌&&◌, not, List, ◌++◌, length, take, drop, replicate, eqb, leb, ltb}
use Rattle.error.specs.Error.{done, end_too_large, tables_not_sound}
use Rattle.table_rows.specs.Choice.{pick}
use Rattle.table_rows.specs.Lists.{all_of}
use Rattle.confidential_vm_mmio_region.specs.declared.ConfidentialVmMmioRegion.{ConfidentialVmMmioRegion}
use Rattle.confidential_vm_mmio_region.specs.Region.{max_end, region_of, region_from, ordered}
use Rattle.mmio_regions.specs.Regions.{max_regions, any_contains, add_number, with_added, with_removed}
use Rattle.mmio_region_survey.specs.declared.Changed.{Changed}
use Rattle.mmio_region_survey.specs.declared.Defined.{Defined}

-- the regions that stand: the first count records
abbrev pub standing : List ConfidentialVmMmioRegion → ℕ → List ConfidentialVmMmioRegion
standing records count = take count records

-- an unused record
abbrev pub unused : ConfidentialVmMmioRegion
unused = region_of 0 0

-- whether a record is unused: its base and its end are 0
abbrev pub is_unused : ConfidentialVmMmioRegion → Bool
is_unused r = eqb r.base 0 && eqb r.end 0

-- room for 1,024 records, the count in range, base ≤ end for each that stands, unused records 0
unfoldable pub run_sound : List ConfidentialVmMmioRegion → ℕ → Bool
run_sound records count =
    leb max_regions (length records)
    && leb count max_regions
    && all_of ordered (standing records count)
    && all_of is_unused (take (max_regions - count) (drop count records))

-- the records of a run in which count regions stood, once rs stand instead: rs, the freed records unused, and the rest as it was
unfoldable pub laid : List ConfidentialVmMmioRegion → ℕ → List ConfidentialVmMmioRegion → List ConfidentialVmMmioRegion
laid records count rs = rs ++ (replicate (count - length rs) unused ++ drop (max count (length rs)) records)

-- how many regions stand, and the records
pub record Run : Type 0 where
  pub count : ℕ
  pub records : List ConfidentialVmMmioRegion

-- the two together
abbrev pub run : ℕ → List ConfidentialVmMmioRegion → Run
run count records = record { count = count; records = records }

-- the run with the regions rs instead of those that stand
abbrev pub relaid : List ConfidentialVmMmioRegion → ℕ → List ConfidentialVmMmioRegion → Run
relaid records count rs = run (length rs) (laid records count rs)

-- the run without the regions that overlap q
abbrev pub without : ConfidentialVmMmioRegion → List ConfidentialVmMmioRegion → ℕ → Run
without q records count = relaid records count (with_removed q (standing records count))

-- the number given, and the run then standing
pub record RunChange : Type 0 where
  pub number : ℕ
  pub after : Run

-- what add or remove answered, and the records it left
abbrev pub run_change : Changed → List ConfidentialVmMmioRegion → RunChange
run_change r records = record { number = r.number; after = run r.count records }

-- a refusal leaves the run as it was
abbrev pub refused : List ConfidentialVmMmioRegion → ℕ → ℕ → RunChange
refused records count number = record { number = number; after = run count records }

-- the checks of every request in their order: 12, judged on the run alone, and then 11
unfoldable pub checked : {A : Type 0} → (ℕ → A) → List ConfidentialVmMmioRegion → ℕ → ℕ → ℕ → A → A
checked refusal records count base size next =
    pick (not (run_sound records count)) (refusal tables_not_sound) (pick (ltb max_end (base + size)) (refusal end_too_large) next)

-- add: 12, 11, then 9, 10
unfoldable pub added : List ConfidentialVmMmioRegion → ℕ → ℕ → ℕ → RunChange
added records count base size =
    checked (refused records count) records count base size
    (record {
      number = add_number (region_from base size) (standing records count);
      after = relaid records count (with_added (region_from base size) (standing records count));
    })

-- remove: 12, 11
unfoldable pub removed : List ConfidentialVmMmioRegion → ℕ → ℕ → ℕ → RunChange
removed records count base size =
    checked (refused records count) records count base size
    (record { number = done; after = without (region_from base size) records count })

-- defined: 12, 11; a refusal says no
unfoldable pub defined : List ConfidentialVmMmioRegion → ℕ → ℕ → ℕ → Defined
defined records count base size =
    checked (λ number. record { number = number; defined = false }) records count base size
    (record { number = done; defined = any_contains (region_from base size) (standing records count) })
