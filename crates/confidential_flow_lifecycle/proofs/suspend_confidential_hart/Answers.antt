-- `confidential_flow_lifecycle::suspend_confidential_hart` meets its contract: what refuses, or else the changed record in the row. Assumes nothing.
use Rattle.confidential_flow_lifecycle.proofs.StepLaws.{fits, not_held, not_changed, is_changed, suspends}
use Rattle.confidential_flow_lifecycle.proofs.suspend_confidential_hart.Goals as goal

pub returns-in_err-hart : goal.returns-in_err-hart
returns-in_err-hart c = not_held _ _ c.held.ensures suspends c.in_err-hart.was _ c.from_residual.ensures.1

pub returns-in_err-suspended : goal.returns-in_err-suspended
returns-in_err-suspended c =
    not_changed _ _ c.held.ensures suspends c.in_ok-hart.was _ c.in_err-suspended.ensures _ c.from_residual-in_err-suspended.ensures.1

pub store-requires : goal.store-requires
store-requires c = fits _ _ c.held.ensures c.in_ok-hart.was

pub returns : goal.returns
returns c = rw c.store.ensures (is_changed _ _ c.held.ensures suspends c.in_ok-hart.was c.in_ok-suspended.ensures)
