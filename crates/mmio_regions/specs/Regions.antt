-- The regions of a VM in the order of adding, and what adding and removing make of them.
use Rattle.std.specs.Prelude.{ℕ, Bool, List, [], ◌∷◌, ◌++◌, length, eqb, leb}
use Rattle.error.specs.Error.{done, reached_max_number_of_mmio_regions, overlapping_mmio_region}
use Rattle.table_rows.specs.Choice.{pick}
use Rattle.table_rows.specs.Lists.{any_of}
use Rattle.confidential_vm_mmio_region.specs.declared.ConfidentialVmMmioRegion.{ConfidentialVmMmioRegion}
use Rattle.confidential_vm_mmio_region.specs.Region.{overlaps, contains}

-- how many regions may stand
abbrev pub max_regions : ℕ
max_regions = 1024

-- one overlaps q
abbrev pub any_overlaps : ConfidentialVmMmioRegion → List ConfidentialVmMmioRegion → Bool
any_overlaps q rs = any_of (λ r. overlaps r q) rs

-- one contains q
abbrev pub any_contains : ConfidentialVmMmioRegion → List ConfidentialVmMmioRegion → Bool
any_contains q rs = any_of (λ r. contains r q) rs

-- the number that adding q gives: 9, then 10, else 0
unfoldable pub add_number : ConfidentialVmMmioRegion → List ConfidentialVmMmioRegion → ℕ
add_number q rs = pick (leb max_regions (length rs)) reached_max_number_of_mmio_regions (pick (any_overlaps q rs) overlapping_mmio_region done)

-- the regions after that: q goes last, and a refusal changes nothing
unfoldable pub with_added : ConfidentialVmMmioRegion → List ConfidentialVmMmioRegion → List ConfidentialVmMmioRegion
with_added q rs = pick (eqb (add_number q rs) done) (rs ++ (q ∷ [])) rs

-- the regions once q is removed: all that overlap q are dropped, and the order of the others is kept
unfoldable pub with_removed : ConfidentialVmMmioRegion → List ConfidentialVmMmioRegion → List ConfidentialVmMmioRegion
with_removed q [] = []
with_removed q (r ∷ rs) = pick (overlaps r q) (with_removed q rs) (r ∷ with_removed q rs)
