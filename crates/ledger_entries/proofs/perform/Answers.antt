-- `ledger_entries::perform` meets its contract: what the request's entry gives is a run's next step. Assumes nothing.
use Rattle.ledger_entries.proofs.StepLaws.{next_step}
use Rattle.ledger_entries.proofs.perform.Goals as goal

pub returns : goal.returns
returns c =
    next_step _ _ _ _ _ _ c.perform.ensures
