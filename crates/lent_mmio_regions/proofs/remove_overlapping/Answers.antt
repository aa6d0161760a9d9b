-- `lent_mmio_regions::remove_overlapping` meets its contract: a turn keeps what the loop says of the records passed. Assumes nothing.
use Prim.Native.Nat.{ℕ, ◌<◌, ◌≤◌}
use mathlib.Core.Path.{◌≡◌}
use mathlib.Core.List.{List}
use lib.ListN.{length, length-set}
use native.Mathlib.Omega.{arith}
use borrow.Author.Rules.{rules}
use Rattle.confidential_vm_mmio_region.specs.declared.ConfidentialVmMmioRegion.{ConfidentialVmMmioRegion}
use Rattle.confidential_vm_mmio_region.specs.Region.{region_of}
use Rattle.lent_mmio_regions.proofs.RemoveLaws.{Left, left_none, left_next, left_few, left_length}
use Rattle.lent_mmio_regions.proofs.remove_overlapping.Goals as goal

pub loop-i-init : goal.loop-i-init
loop-i-init c = left_none c.args.regions.now c.args.query

-- fewer are kept than records there are
few : (ys : List ConfidentialVmMmioRegion) (q : ConfidentialVmMmioRegion) (count i k : ℕ) (zs : List ConfidentialVmMmioRegion)
    → count ≤ length ys → i < count → Left ys q i k zs → (k ≤ i) × (length zs ≡ length ys)
few ys q count i k zs room here left =
    (left_few ys q i k zs (omega arith) left, left_length ys q i k zs (omega arith) left)

pub keep-kept-requires : goal.keep-kept-requires
keep-kept-requires c =
    let f = few c.args.regions.now c.args.query c.args.count c.loop-i.i _ _ c.requires c.loop-i-test.true c.loop-i.invariant in
    omega (arith, f.0)

pub offset_bounds-regions-next : goal.offset_bounds-regions-next
offset_bounds-regions-next c =
    let f = few c.args.regions.now c.args.query c.args.count c.loop-i.i _ _ c.requires c.loop-i-test.true c.loop-i.invariant in
    let there : c.loop-i.next < length c.loop-i.regions = omega (arith, f.0, f.1, c.requires) in
    search rules

pub bounds-regions-next : goal.bounds-regions-next
bounds-regions-next c =
    let f = few c.args.regions.now c.args.query c.args.count c.loop-i.i _ _ c.requires c.loop-i-test.true c.loop-i.invariant in
    simp length-set (omega (arith, f.0, f.1))

pub loop-i-preserved : goal.loop-i-preserved
loop-i-preserved c =
    let left : c.take-region.new.dest ≡ region_of 0 0 = search rules in
    rw (c.keep-kept.ensures, c.take-region.ensures.value, left)
    (left_next c.args.regions.now c.args.query c.loop-i.i c.loop-i.next c.loop-i.regions (omega (arith, c.requires)) c.loop-i.invariant)
