-- `monitor_exports::oudrameng_are_tables_sound` meets its contract: the judge's answer as a number. Assumes nothing.
use mathlib.Core.Path.{ap, ◌∙◌}
use mathlib.Core.Bool.{Bool}
use Prim.Native.Nat.{ℕ}
use Rattle.table_rows.specs.Choice.{pick}
use Rattle.monitor_exports.proofs.oudrameng_are_tables_sound.Goals as goal

pub returns : goal.returns
returns c = c.word_of.ensures ∙ ap (λ (b : Bool). pick {A = ℕ} b 1 0) c.are_tables_sound.ensures
