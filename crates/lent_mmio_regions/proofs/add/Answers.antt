-- `lent_mmio_regions::add` meets its contract: the answer made of one look, and the region stored where it is added. Assumes nothing.
use Prim.Native.Nat.{◌<◌}
use lib.ListN.{length}
use borrow.Author.Rules.{rules}
use Rattle.std.proofs.lemmas.Result.{err_from_is_err_and}
use Rattle.lent_mmio_regions.proofs.AnswerLaws.{add_room, add_stored, add_kept}
use Rattle.lent_mmio_regions.proofs.add.Goals as goal

pub returns-in_err-more : goal.returns-in_err-more
returns-in_err-more c =
    let p = err_from_is_err_and c.from_residual.result c.from_residual.ensures.1 in
    rw (p.1, p.2) (add_kept _ _ _ _ _ (rw (c.survey_run.ensures, c.requested-query.ensures) at c.in_err-more.ensures))

pub bounds-regions-count : goal.bounds-regions-count
bounds-regions-count c = add_room _ _ _ _ (rw (c.survey_run.ensures, c.requested-query.ensures) at c.in_ok-more.ensures)

pub offset_bounds-regions-count : goal.offset_bounds-regions-count
offset_bounds-regions-count c =
    let there : c.args.count < length c.args.regions.now =
    add_room _ _ _ _ (rw (c.survey_run.ensures, c.requested-query.ensures) at c.in_ok-more.ensures) in
    search rules

pub returns : goal.returns
returns c =
    rw c.requested-query.ensures
    (add_stored _ _ _ _ (rw (c.survey_run.ensures, c.requested-query.ensures) at c.in_ok-more.ensures))
