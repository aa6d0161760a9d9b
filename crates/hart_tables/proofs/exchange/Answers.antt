-- `hart_tables::exchange` meets its contract: each row is lent as a part, and the two parts are swapped. Assumes nothing.
use Rattle.table_rows.proofs.PartLaws.{part_row, part_put}
use Rattle.hart_rows.specs.HartRows.{hart_words}
use Rattle.hart_tables.proofs.exchange.Goals as goal

pub returns : goal.returns
returns c = (
  rw (part_put hart_words, c.swap_with_slice.ensures.after, part_row hart_words),
  rw (part_put hart_words, c.swap_with_slice.ensures.other_after, part_row hart_words),
)
