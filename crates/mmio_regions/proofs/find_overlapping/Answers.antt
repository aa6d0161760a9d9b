-- `mmio_regions::find_overlapping` meets its contract. Assumes nothing.
use Rattle.std.proofs.Common.{rules, arith}
use Rattle.std.specs.Prelude.{Some, None}
use Rattle.confidential_vm_mmio_region.specs.Region.{overlaps}
use Rattle.mmio_regions.proofs.TableLaws.{first_found}
use Rattle.mmio_regions.proofs.find_overlapping.Goals as goal

pub returns-then-overlaps : goal.returns-then-overlaps
returns-then-overlaps c =
    let turn = c.loop-i in
    first_found (λ r. overlaps r c.args.query) c.args.regions.now c.args.count (Some turn.i)
    (omega arith, search rules, search rules, λ k _ l. turn.invariant k l)

pub returns : goal.returns
returns c =
    let turn = c.loop-i in
    first_found (λ r. overlaps r c.args.query) c.args.regions.now c.args.count None
    (λ k _ l. turn.invariant k (search rules))
