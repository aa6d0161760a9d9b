-- `held_hart::execute_own` meets its contract: nothing is done, or the command alone. Assumes nothing.
use mathlib.Core.Path.{sym, ◌∙◌}
use Rattle.held_hart.proofs.HeldLaws.{own_none, own_one}
use Rattle.held_hart.proofs.execute_own.Goals as goal

pub returns-then-not-is_hart_selected : goal.returns-then-not-is_hart_selected
returns-then-not-is_hart_selected c = own_none _ _ _ _ _ (sym c.is_hart_selected.ensures ∙ c.if-not-is_hart_selected.true)

pub returns : goal.returns
returns c =
    own_one _ _ _ _ _ (sym c.is_hart_selected.ensures ∙ c.if-not-is_hart_selected.false) c.execute-off.ensures.0
    c.power_off_if.ensures c.execute-off.ensures.1
