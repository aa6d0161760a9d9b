-- Runs of 1,024 records, worked out: what three requests in turn give and leave, and runs that are refused. Assumes nothing.
use mathlib.Core.Path.{◌≡◌, refl}
use mathlib.Core.Bool.{true, false}
use mathlib.Core.List.{List, [], ◌∷◌, ◌++◌}
use Prim.Native.Nat.{ℕ, ◌^◌, ◌-◌}
use lib.ListN.{replicate}
use Rattle.error.specs.Error.{done, overlapping_mmio_region, end_too_large, tables_not_sound}
use Rattle.table_rows.specs.Choice.{pick}
use Rattle.table_rows.specs.Lists.{any_of, all_of}
use Rattle.confidential_vm_mmio_region.specs.declared.ConfidentialVmMmioRegion.{ConfidentialVmMmioRegion}
use Rattle.confidential_vm_mmio_region.specs.Region.{region_of}
use Rattle.mmio_regions.specs.Regions.{add_number, with_added, with_removed}
use Rattle.lent_mmio_regions.specs.Run.{unused, run_sound, laid, run, RunChange, checked, added, removed, defined}

-- an outcome by its parts
abbrev leaves : ℕ → ℕ → List ConfidentialVmMmioRegion → RunChange
leaves number count records = record { number = number; after = run count records }

-- a run in which the first two records stand; one more record lies past the last place, and belongs to no table
abbrev two : List ConfidentialVmMmioRegion
two = region_of 4096 8192 ∷ region_of 8192 12288 ∷ replicate 1022 unused ++ (region_of 7 3 ∷ [])

-- a region that touches the second is added, and goes last
pub adds_last : added two 2 12288 16
    ≡ leaves done 3 (region_of 4096 8192 ∷ region_of 8192 12288 ∷ region_of 12288 12304 ∷ replicate 1021 unused ++ (region_of 7 3 ∷ []))
unfolding added checked run_sound laid pick any_of all_of add_number with_added
adds_last = refl

-- one that overlaps is refused
pub refuses_overlap : added two 2 8000 1000 ≡ leaves overlapping_mmio_region 2 two
unfolding added checked run_sound laid pick any_of all_of add_number with_added
refuses_overlap = refl

-- the first is removed: the second moves up, and the record that it leaves is unused
pub removes_first : removed two 2 5000 0 ≡ leaves done 1 (region_of 8192 12288 ∷ replicate 1023 unused ++ (region_of 7 3 ∷ []))
unfolding removed checked run_sound laid pick all_of with_removed
removes_first = refl

-- a count of 1 makes the second an unused record that is not 0
pub refuses_count : removed two 1 5000 0 ≡ leaves tables_not_sound 1 two
unfolding removed checked run_sound pick all_of
refuses_count = refl

-- an end too large, in a run that is sound
pub refuses_end : removed two 2 (2 ^ 64 - 1) 1 ≡ leaves end_too_large 2 two
unfolding removed checked run_sound pick all_of
refuses_end = refl

-- a run of 1,023 records is too short, whatever stands
pub refuses_short : defined (replicate 1023 unused) 0 0 0 ≡ record { number = tables_not_sound; defined = false }
unfolding defined checked run_sound pick
refuses_short = refl

-- the empty region at 0 is in no region, though an unused record has the same numbers
pub unused_holds_none : defined two 2 0 0 ≡ record { number = done; defined = false }
unfolding defined checked run_sound pick any_of all_of
unused_holds_none = refl

-- a part of the second
pub second_holds : defined two 2 9000 100 ≡ record { number = done; defined = true }
unfolding defined checked run_sound pick any_of all_of
second_holds = refl
