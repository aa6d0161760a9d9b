-- `mmio_regions::find_overlapping` meets its contract: no place that was passed overlaps the query. Assumes nothing.
use Prim.Native.Nat.{ℕ, ◌<◌}
use mathlib.Core.Path.{◌≡◌}
use mathlib.Core.Bool.{false}
use Rattle.confidential_vm_mmio_region.specs.Region.{overlaps}
use Rattle.mmio_regions.specs.Table.{region_at}
use Rattle.mmio_regions.proofs.find_overlapping.Given as goal

abbrev pub invariant-loop-i : goal.invariant-loop-i
invariant-loop-i l = (k : ℕ) → k < l.i → overlaps (region_at l.regions k) l.query ≡ false
