-- `mmio_region_survey::places` meets its contract. Assumes nothing.
use Rattle.std.proofs.Common.{rules, tests}
use Rattle.table_rows.specs.Choice.{pick}
use Rattle.mmio_region_survey.specs.Survey.{places_of}
use Rattle.mmio_region_survey.proofs.places.Goals as goal

pub returns-then-length-most : goal.returns-then-length-most
unfolding places_of pick
returns-then-length-most c = search (rules, tests)

pub returns-then-most-count : goal.returns-then-most-count
unfolding places_of pick
returns-then-most-count c = search (rules, tests)

pub returns : goal.returns
unfolding places_of pick
returns c = search (rules, tests)
