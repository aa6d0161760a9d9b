-- A region that is made. Assumes nothing.
use Rattle.std.specs.Prelude.{◌≡◌, ℕ, ◌+◌, true, Result, ltb}
use Rattle.std.specs.Result.{IfOk}
use native.Mathlib.Omega.{arith}
use borrow.Author.Tests.{le-leb}
use Rattle.error.specs.declared.Error.{Error}
use Rattle.table_rows.proofs.PickLaws.{by_pick}
use Rattle.confidential_vm_mmio_region.specs.Region.{max_end, new_region, ordered}
use Rattle.confidential_vm_mmio_region.specs.declared.ConfidentialVmMmioRegion.{ConfidentialVmMmioRegion}

-- a new region has base ≤ end
pub new_ordered : (start size : ℕ) → IfOk (new_region start size) (λ r. ordered r ≡ true)
unfolding new_region
new_ordered start size =
    by_pick (λ (n : Result ConfidentialVmMmioRegion Error). IfOk n (λ r. ordered r ≡ true)) (ltb max_end (start + size)) _ _ (λ e. tt)
    (λ e. le-leb start (start + size) (omega arith))
