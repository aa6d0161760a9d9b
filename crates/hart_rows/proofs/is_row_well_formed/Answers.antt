-- `hart_rows::is_row_well_formed` meets its contract. Assumes nothing.
use mathlib.Core.Path.{◌∙◌}
use Rattle.hart_rows.proofs.HartRowLaws.{row_formed}
use Rattle.hart_rows.proofs.is_row_well_formed.Goals as goal

pub returns : goal.returns
returns c =
    c.are_parts_well_formed.ensures ∙ row_formed c.args.vm c.args.row.now c.requires.0 c.requires.1
