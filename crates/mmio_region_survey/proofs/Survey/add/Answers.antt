-- `mmio_region_survey::Survey::add` meets its contract. Assumes nothing.
use Rattle.std.proofs.Common.{rules, tests}
use Rattle.table_rows.specs.Choice.{pick}
use Rattle.mmio_region_survey.specs.Survey.{add_answer}
use Rattle.mmio_region_survey.proofs.Survey.add.Goals as goal

pub returns-in_err-check : goal.returns-in_err-check
unfolding add_answer pick
returns-in_err-check c = search (rules, tests)

pub returns-then-count : goal.returns-then-count
unfolding add_answer pick
returns-then-count c = search (rules, tests)

pub returns-then-self : goal.returns-then-self
unfolding add_answer pick
returns-then-self c = search (rules, tests)

pub returns : goal.returns
unfolding add_answer pick
returns c = search (rules, tests)
