-- `mmio_region_survey::Survey::is_defined` meets its contract. Assumes nothing.
use Rattle.std.proofs.Common.{rules, tests}
use Rattle.table_rows.specs.Choice.{pick}
use Rattle.mmio_region_survey.specs.Survey.{defined_answer}
use Rattle.mmio_region_survey.proofs.Survey.is_defined.Goals as goal

pub returns-in_err-check : goal.returns-in_err-check
unfolding defined_answer pick
returns-in_err-check c = search (rules, tests)

pub returns : goal.returns
unfolding defined_answer pick
returns c = search (rules, tests)
