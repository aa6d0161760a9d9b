-- `effects::execute` meets its contract: record i is lent as a part, and its words come back. Assumes nothing.
use Prim.Native.Nat.{ℕ}
use mathlib.Core.Path.{refl, ap, ◌∙◌}
use mathlib.Core.List.{List}
use Rattle.table_rows.specs.Rows.{put}
use Rattle.table_rows.proofs.PartLaws.{part_put}
use Rattle.effects.specs.Effects.{effect_words}
use Rattle.effects.proofs.execute.Goals as goal

pub returns : goal.returns
returns c =
    let effects : List ℕ = c.args.effects.now in
    let i : ℕ = c.args.i in
    (refl, part_put effect_words effects i _ ∙ ap (put effect_words effects i) c.write.ensures)
