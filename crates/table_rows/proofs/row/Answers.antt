-- `table_rows::row` meets its contract. Assumes nothing.
use mathlib.Core.Path.{ap, ◌∙◌}
use lib.ListN.{length}
use Rattle.table_rows.proofs.PartLaws.{part_row}
use Rattle.table_rows.proofs.RowLaws.{row_length}
use Rattle.table_rows.proofs.row.Goals as goal

pub returns : goal.returns
returns c = record {
  words = part_row c.args.w c.args.rows.now c.args.i;
  as_many = ap length (part_row c.args.w c.args.rows.now c.args.i) ∙ row_length c.args.w c.args.rows.now c.args.i c.requires;
}
