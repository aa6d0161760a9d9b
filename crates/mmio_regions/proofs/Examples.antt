-- The examples P2 to P5 of document 01, as one table. Assumes nothing.
use mathlib.Core.Path.{◌≡◌, refl}
use mathlib.Core.List.{List, [], ◌∷◌, map}
use Prim.Native.Nat.{ℕ, ◌-◌, ◌^◌}
use Rattle.std.specs.Prelude.{Result, Ok, Err}
use Rattle.error.specs.declared.Error.{Error}
use Rattle.error.specs.Error.{done, number_of, overlapping_mmio_region, end_too_large}
use Rattle.table_rows.specs.Choice.{pick}
use Rattle.confidential_vm_mmio_region.specs.Region.{max_end, region_of, new_region}
use Rattle.table_rows.specs.Lists.{any_of}
use Rattle.mmio_regions.specs.Regions.{add_number, with_added, with_removed}
use Rattle.mmio_regions.specs.Table.{words_of}
use Rattle.confidential_vm_mmio_region.specs.declared.ConfidentialVmMmioRegion.{ConfidentialVmMmioRegion}

-- what the definitions give, and what the document says
pub record Example : Type 0 where
  pub given : List ℕ
  pub said : List ℕ

-- regions are added in turn: the numbers given
adding : List ConfidentialVmMmioRegion → List ConfidentialVmMmioRegion → List ℕ
adding rs [] = []
adding rs (q ∷ qs) = add_number q rs ∷ adding (with_added q rs) qs

-- a region made: the number, base and end
making : Result ConfidentialVmMmioRegion Error → List ℕ
making (Ok r) = done ∷ r.base ∷ r.end ∷ []
making (Err e) = number_of e ∷ 0 ∷ 0 ∷ []

-- a region made and then added to none: the number given
making_adding : Result ConfidentialVmMmioRegion Error → List ℕ
making_adding (Ok r) = adding [] (r ∷ [])
making_adding (Err e) = number_of e ∷ []

abbrev first : ConfidentialVmMmioRegion
first = region_of 4096 8192

pub examples : List Example
examples =
    -- P2 [4096,8192) then [8192,12288): both added
    record { given = adding [] (first ∷ region_of 8192 12288 ∷ []); said = done ∷ done ∷ [] }
    -- P3 beside [4096,8192), [4096,4096) is added, twice; [5000,5000) is 10
    ∷ record {
      given = adding [] (first ∷ region_of 4096 4096 ∷ region_of 4096 4096 ∷ region_of 5000 5000 ∷ []);
      said = done ∷ done ∷ done ∷ overlapping_mmio_region ∷ [];
    }
    -- P4 removing [5000,5000) drops [4096,8192); removing [4096,4096) drops no [4096,4096)
    ∷ record { given = words_of (with_removed (region_of 5000 5000) (first ∷ [])); said = [] }
    ∷ record {
      given = words_of (with_removed (region_of 4096 4096) (region_of 4096 4096 ∷ region_of 4096 4096 ∷ []));
      said = 4096 ∷ 4096 ∷ 4096 ∷ 4096 ∷ [];
    }
    -- P5 base 2^64 − 1: size 0 added, size 1 is 11
    ∷ record { given = making (new_region (2 ^ 64 - 1) 0); said = done ∷ max_end ∷ max_end ∷ [] }
    ∷ record { given = making_adding (new_region (2 ^ 64 - 1) 0); said = done ∷ [] }
    ∷ record { given = making (new_region (2 ^ 64 - 1) 1); said = end_too_large ∷ 0 ∷ 0 ∷ [] }
    ∷ []

pub as_said : map (λ (e : Example). e.given) examples ≡ map (λ (e : Example). e.said) examples
unfolding examples adding making making_adding pick new_region any_of add_number with_added with_removed words_of
as_said = refl
