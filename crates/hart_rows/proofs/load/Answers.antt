-- `hart_rows::load` meets its contract: the record is read from row i. Assumes nothing.
use mathlib.Core.Path.{ap, ◌∙◌}
use Rattle.hart_rows.specs.HartRows.{from_words, hart_at}
use Rattle.hart_rows.proofs.load.Goals as goal

pub returns : goal.returns
unfolding hart_at
returns c = c.from_words.ensures ∙ ap from_words c.row.ensures.words
