-- `lent_mmio_regions::remove` meets its contract: the refusal made of one look, or the loop that removes. Assumes nothing.
use mathlib.Core.Path.{ap, ◌∙◌}
use Rattle.std.proofs.lemmas.Result.{err_from_is_err_and}
use Rattle.confidential_vm_mmio_region.specs.declared.ConfidentialVmMmioRegion.{ConfidentialVmMmioRegion}
use Rattle.lent_mmio_regions.specs.Run.{without}
use Rattle.lent_mmio_regions.proofs.AnswerLaws.{remove_room, remove_done, remove_refused}
use Rattle.lent_mmio_regions.proofs.remove.Goals as goal

pub returns-in_err-check : goal.returns-in_err-check
returns-in_err-check c =
    let p = err_from_is_err_and c.from_residual.result c.from_residual.ensures.1 in
    rw (p.1, p.2) (remove_refused _ _ _ _ _ (rw (c.survey_run.ensures, c.requested-query.ensures) at c.in_err-check.ensures))

pub remove_overlapping-requires : goal.remove_overlapping-requires
remove_overlapping-requires c = remove_room _ _ _ _ (rw (c.survey_run.ensures, c.requested-query.ensures) at c.in_ok-check.ensures)

pub returns : goal.returns
returns c =
    remove_done _ _ _ _ (rw (c.survey_run.ensures, c.requested-query.ensures) at c.in_ok-check.ensures) _ _
    (c.remove_overlapping.ensures
    ∙ ap (λ (q : ConfidentialVmMmioRegion). without q c.args.regions.now c.args.count) c.requested-query.ensures)
