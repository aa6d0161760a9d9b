-- `mmio_regions::remove` meets its contract: the places passed are swept. Assumes nothing.
use mathlib.Core.Path.{sym, ◌∙◌}
use borrow.Author.Rules.{rules}
use Rattle.table_rows.proofs.PickLaws.{yes, no}
use Rattle.mmio_regions.proofs.RemoveLaws.{sweep_start, sweep_next, sweep_done}
use Rattle.mmio_regions.proofs.remove.Goals.{then-not-overlaps, else-not-overlaps}
use Rattle.mmio_regions.proofs.remove.Goals as goal

pub loop-i-init : goal.loop-i-init
loop-i-init c = sweep_start _ _ c.find_overlapping-kept.ensures (search rules)

pub loop-i-preserved : goal.loop-i-preserved
loop-i-preserved c =
    let turn = c.loop-i in
    sweep_next _ _ _ turn.i _ turn.invariant (search rules) c.region-r.ensures c.set_region.ensures
    (elim c.if-not-overlaps.branch [
      | then-not-overlaps w ↦ no _ (sym c.overlaps.ensures ∙ w.if-not-overlaps.true) w.kept-is
      | else-not-overlaps w ↦ yes _ (sym c.overlaps.ensures ∙ w.if-not-overlaps.false) w.kept-is
    ])

pub returns : goal.returns
returns c =
    let last = c.loop-i in
    sweep_done _ _ _ _ _ last.i last.invariant (search rules) (search rules) (search rules) (c.fill.ensures.after (λ y e. e))
