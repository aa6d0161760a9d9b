-- `lent_mmio_regions::lent_is_mmio_region_defined` meets its contract: the answer made of one look. Assumes nothing.
use mathlib.Core.Path.{ap, ◌∙◌}
use Rattle.mmio_region_survey.specs.declared.Survey.{Survey}
use Rattle.mmio_region_survey.specs.Survey.{surveyed, defined_answer}
use Rattle.lent_mmio_regions.proofs.AnswerLaws.{defined_answer_lem}
use Rattle.lent_mmio_regions.proofs.lent_is_mmio_region_defined.Goals as goal

pub returns : goal.returns
returns c =
    let a = c.args in
    c.from.ensures
    ∙ c.is_defined.ensures
    ∙ ap (λ (s : Survey). defined_answer s a.base a.size)
    (c.survey_run.ensures ∙ ap (surveyed a.regions.now a.count) c.requested-query.ensures)
    ∙ defined_answer_lem a.regions.now a.count a.base a.size
