-- `table_rows::set_word` meets its contract. Assumes nothing.
use Rattle.table_rows.proofs.RowLaws.{set_word}
use Rattle.table_rows.proofs.set_word.Goals as goal

pub returns : goal.returns
returns c = set_word _ _ _ c.requires.0 _ _ c.requires.1
