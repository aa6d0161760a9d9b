-- `mmio_regions::overlaps_any` meets its contract. Assumes nothing.
use Rattle.std.proofs.Common.{rules, arith, tests, ◌∙◌}
use Rattle.std.proofs.lemmas.Iterator.{YieldsList-from_range}
use Rattle.std.proofs.lemmas.Iterator.Search.{any_from_yields_List}
use Rattle.confidential_vm_mmio_region.specs.Region.{overlaps}
use Rattle.mmio_regions.specs.Table.{region_at}
use Rattle.mmio_regions.proofs.TableLaws.{any_standing}
use Rattle.mmio_regions.proofs.overlaps_any.Goals as goal

pub returns : goal.returns
returns c =
    let n = c.args.count in
    any_from_yields_List (λ i. overlaps (region_at c.args.regions.now i) c.args.query) _ _ _ c.any.ensures.ran
    (YieldsList-from_range 0 n n (cc) (omega arith))
    (λ x b q k. search (rules, tests))
    ∙ any_standing (λ r. overlaps r c.args.query) c.args.regions.now n
