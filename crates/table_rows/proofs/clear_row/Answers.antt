-- `table_rows::clear_row` meets its contract: row i is lent as a part, and as many zeros come back. Assumes nothing.
use mathlib.Core.Path.{ap, ◌∙◌}
use mathlib.Core.List.{List}
use Prim.Native.Nat.{ℕ}
use lib.ListN.{length, replicate}
use Rattle.table_rows.specs.Rows.{put}
use Rattle.table_rows.proofs.PartLaws.{part_row, part_put}
use Rattle.table_rows.proofs.RowLaws.{row_length}
use Rattle.table_rows.proofs.clear_row.Goals as goal

pub returns : goal.returns
returns c =
    let rows : List ℕ = c.args.rows.now in
    let w : ℕ = c.args.w in
    let i : ℕ = c.args.i in
    part_put w rows i _
    ∙ ap (put w rows i)
    (c.clear.ensures ∙ ap (λ (n : ℕ). replicate n 0) (ap length (part_row w rows i) ∙ row_length w rows i c.requires))
