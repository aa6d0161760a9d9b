-- `table_rows::word` meets its contract. Assumes nothing.
use mathlib.Core.Path.{sym}
use Rattle.table_rows.specs.Rows.{word_at}
use Rattle.table_rows.proofs.RowLaws.{row_word}
use Rattle.table_rows.proofs.word.Goals as goal

pub returns : goal.returns
unfolding word_at
returns c = sym (row_word _ _ _ _ c.requires.1)
