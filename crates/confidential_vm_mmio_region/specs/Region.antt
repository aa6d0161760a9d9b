-- A region, and when two overlap or one contains the other.
use Rattle.std.specs.Prelude.{ℕ, ◌+◌, ◌-◌, ◌^◌, Bool, ◌&&◌, Result, Ok, Err, leb, ltb}
use Rattle.error.specs.declared.Error.{Error}
use Rattle.error.specs.declared.Error.TheVariants.{EndTooLarge}
use Rattle.table_rows.specs.Choice.{pick}
use Rattle.confidential_vm_mmio_region.specs.declared.ConfidentialVmMmioRegion.{ConfidentialVmMmioRegion}

-- the largest end
abbrev pub max_end : ℕ
max_end = 2 ^ 64 - 1

-- the region from base to end
abbrev pub region_of : ℕ → ℕ → ConfidentialVmMmioRegion
region_of base end = record { base = base; end = end }

-- the region of size numbers from base on
abbrev pub region_from : ℕ → ℕ → ConfidentialVmMmioRegion
region_from base size = region_of base (base + size)

-- the same where its end is not too large; else 11
unfoldable pub new_region : ℕ → ℕ → Result ConfidentialVmMmioRegion Error
new_region start size = pick (ltb max_end (start + size)) (Err EndTooLarge) (Ok (region_from start size))

-- each base is below the other's end
abbrev pub overlaps : ConfidentialVmMmioRegion → ConfidentialVmMmioRegion → Bool
overlaps a b = ltb a.base b.end && ltb b.base a.end

-- a's base ≤ b's and b's end ≤ a's
abbrev pub contains : ConfidentialVmMmioRegion → ConfidentialVmMmioRegion → Bool
contains a b = leb a.base b.base && leb b.end a.end

-- base ≤ end
abbrev pub ordered : ConfidentialVmMmioRegion → Bool
ordered r = leb r.base r.end
