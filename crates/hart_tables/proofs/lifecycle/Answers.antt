-- `hart_tables::lifecycle` meets its contract: a word of the row is the part of its record. Assumes nothing.
use mathlib.Core.Path.{◌∙◌}
use Rattle.hart_rows.proofs.HartRowLaws.{lifecycle_word_lem}
use Rattle.hart_tables.proofs.lifecycle.Goals as goal

pub returns : goal.returns
returns c = c.word.ensures ∙ lifecycle_word_lem _ _
