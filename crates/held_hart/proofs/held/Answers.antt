-- `held_hart::held` meets its contract: its two tests in their order. Assumes nothing.
use mathlib.Core.Path.{refl, sym, ◌∙◌}
use borrow.Author.Tests.{le-leb, lt-leb}
use Rattle.table_rows.proofs.PickLaws.{yes, no}
use Rattle.held_hart.proofs.held.Goals as goal

pub returns-then-head-on : goal.returns-then-head-on
returns-then-head-on c = yes _ (le-leb _ _ c.if-head-on.true) refl

pub returns-then-is_dummy : goal.returns-then-is_dummy
returns-then-is_dummy c = no _ (lt-leb _ _ c.if-head-on.false) (yes _ (sym c.is_dummy.ensures ∙ c.if-is_dummy.true) refl)

pub returns : goal.returns
returns c = no _ (lt-leb _ _ c.if-head-on.false) (no _ (sym c.is_dummy.ensures ∙ c.if-is_dummy.false) refl)
