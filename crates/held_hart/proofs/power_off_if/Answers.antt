-- `held_hart::power_off_if` meets its contract: off, or as it was. Assumes nothing.
use Prim.Native.Nat.{ℕ}
use mathlib.Core.Path.{refl, sym, ap, ◌∙◌}
use mathlib.Core.List.{List}
use Rattle.table_rows.specs.Rows.{put}
use Rattle.table_rows.proofs.PickLaws.{yes, no}
use Rattle.confidential_hart.specs.Transition.{Transition, after_off}
use Rattle.hart_rows.specs.HartRows.{hart_words, to_words}
use Rattle.hart_rows.proofs.HartRowLaws.{store_loaded}
use Rattle.held_hart.proofs.power_off_if.Goals as goal

-- row k with the words of what a step gives
abbrev stored : List ℕ → ℕ → Transition → List ℕ
stored rows k t = put hart_words rows k (to_words t.hart)

pub returns-in-Ok : goal.returns-in-Ok
returns-in-Ok c = yes _ c.if-off.true (c.store.ensures ∙ ap (stored _ _) (c.in-Ok.ensures ∙ ap after_off c.load.ensures))

pub returns-in_default : goal.returns-in_default
returns-in_default c =
    yes _ c.if-off.true (sym (store_loaded _ _ c.requires) ∙ ap (stored _ _) (rw c.load.ensures at c.in_default.ensures))

pub returns-else-off : goal.returns-else-off
returns-else-off c = no _ c.if-off.false refl
