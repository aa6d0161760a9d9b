-- `hart_rows::to_words` meets its contract: the stores fill the row. Assumes nothing.
use lib.ListN.{length-set}
use Rattle.table_rows.proofs.RowLaws.{sets_whole}
use Rattle.hart_rows.specs.HartRows.{to_words}
use Rattle.hart_rows.proofs.to_words.Goals as goal

pub shape_of-row : goal.shape_of-row
shape_of-row c = simp length-set

pub returns : goal.returns
unfolding to_words
returns c = sets_whole (to_words c.args.hart) c.args.row.now c.requires
