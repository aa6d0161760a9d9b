-- `hart_tables::operation` meets its contract: a word of the row is the part of its record. Assumes nothing.
use mathlib.Core.Path.{◌∙◌}
use Rattle.hart_rows.proofs.HartRowLaws.{operation_word_lem}
use Rattle.hart_tables.proofs.operation.Goals as goal

pub returns : goal.returns
returns c = c.word.ensures ∙ operation_word_lem _ _
