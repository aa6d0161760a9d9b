-- `mmio_region_survey::standing` meets its contract. Assumes nothing.
use Rattle.std.proofs.Common.{rules, tests}
use Rattle.table_rows.specs.Choice.{pick}
use Rattle.mmio_region_survey.specs.Survey.{standing_of}
use Rattle.mmio_region_survey.proofs.standing.Goals as goal

pub returns : goal.returns
unfolding standing_of pick
returns c = search (rules, tests)
