-- `mmio_regions::add` meets its contract. Assumes nothing.
use Rattle.std.proofs.Common.{◌+◌, Ok, ap, ◌∙◌}
use borrow.Author.Rules.{rules}
use Rattle.mmio_regions.specs.Table.{addition}
use Rattle.mmio_regions.proofs.AddLaws.{add_full, add_overlapping, add_done}
use Rattle.mmio_regions.proofs.add.Goals as goal

pub returns-then-count : goal.returns-then-count
returns-then-count c = add_full _ _ _ c.requires (search rules)

pub returns-then-overlaps_any : goal.returns-then-overlaps_any
returns-then-overlaps_any c =
    add_overlapping _ _ _ c.requires (search rules) _ c.overlaps_any.ensures c.if-overlaps_any.true

pub returns : goal.returns
returns c =
    ap (addition c.args.count (Ok (c.args.count + 1))) c.set_region.ensures
    ∙ add_done _ _ _ c.requires (search rules) _ c.overlaps_any.ensures c.if-overlaps_any.false
