-- `mmio_region_survey::Survey::check` meets its contract. Assumes nothing.
use Rattle.std.proofs.Common.{rules, tests}
use Rattle.table_rows.specs.Choice.{pick}
use Rattle.mmio_region_survey.specs.Survey.{refusal}
use Rattle.mmio_region_survey.proofs.Survey.check.Goals as goal

pub returns-then-not-self : goal.returns-then-not-self
unfolding refusal pick
returns-then-not-self c = search (rules, tests)

pub returns-in_err-new : goal.returns-in_err-new
unfolding refusal pick
returns-in_err-new c = search (rules, tests)

pub returns : goal.returns
unfolding refusal pick
returns c = search (rules, tests)
