-- `mmio_regions::find_containing` meets its contract. Assumes nothing.
use Rattle.std.proofs.Common.{rules, arith}
use Rattle.std.specs.Prelude.{Some, None}
use Rattle.confidential_vm_mmio_region.specs.Region.{contains}
use Rattle.mmio_regions.proofs.TableLaws.{first_found}
use Rattle.mmio_regions.proofs.find_containing.Goals as goal

pub returns-then-contains : goal.returns-then-contains
returns-then-contains c =
    let turn = c.loop-i in
    first_found (λ r. contains r c.args.query) c.args.regions.now c.args.count (Some turn.i)
    (omega arith, search rules, search rules, λ k _ l. turn.invariant k l)

pub returns : goal.returns
returns c =
    let turn = c.loop-i in
    first_found (λ r. contains r c.args.query) c.args.regions.now c.args.count None
    (λ k _ l. turn.invariant k (search rules))
