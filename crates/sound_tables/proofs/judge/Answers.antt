-- `sound_tables::judge` meets its contract: the answer of `are_tables_sound` decides. Assumes nothing.
use mathlib.Core.Path.{refl, sym, ◌∙◌}
use Rattle.table_rows.proofs.PickLaws.{yes, no, not_yes, not_no}
use Rattle.sound_tables.proofs.judge.Goals as goal

pub returns-then-are_tables_sound : goal.returns-then-are_tables_sound
returns-then-are_tables_sound c = no _ (not_no _ (sym c.are_tables_sound.ensures ∙ c.if-are_tables_sound.true)) refl

pub returns-else-are_tables_sound : goal.returns-else-are_tables_sound
returns-else-are_tables_sound c = yes _ (not_yes _ (sym c.are_tables_sound.ensures ∙ c.if-are_tables_sound.false)) refl
