-- `mmio_region_survey::keep` meets its contract. Assumes nothing.
use Rattle.std.proofs.Common.{rules, tests}
use Rattle.table_rows.specs.Choice.{pick}
use Rattle.mmio_region_survey.specs.Survey.{kept_of}
use Rattle.mmio_region_survey.proofs.keep.Goals as goal

pub returns-then-overlaps : goal.returns-then-overlaps
unfolding kept_of pick
returns-then-overlaps c = search (rules, tests)

pub returns : goal.returns
unfolding kept_of pick
returns c = search (rules, tests)
