-- `mmio_regions::find_containing` meets its contract: no place that was passed contains the query. Assumes nothing.
use Prim.Native.Nat.{ℕ, ◌<◌}
use mathlib.Core.Path.{◌≡◌}
use mathlib.Core.Bool.{false}
use Rattle.confidential_vm_mmio_region.specs.Region.{contains}
use Rattle.mmio_regions.specs.Table.{region_at}
use Rattle.mmio_regions.proofs.find_containing.Given as goal

abbrev pub invariant-loop-i : goal.invariant-loop-i
invariant-loop-i l = (k : ℕ) → k < l.i → contains (region_at l.regions k) l.query ≡ false
