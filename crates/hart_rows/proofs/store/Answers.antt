-- `hart_rows::store` meets its contract: row i is lent as a part, and a record's words come back. Assumes nothing.
use Rattle.table_rows.proofs.PartLaws.{part_put}
use Rattle.hart_rows.specs.HartRows.{hart_words}
use Rattle.hart_rows.proofs.store.Goals as goal

pub returns : goal.returns
returns c = rw (part_put hart_words, c.to_words.ensures)
