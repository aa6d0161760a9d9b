-- `ledger_entries::new` meets its contract: what the setup's entry gives is the first step of a run. Assumes nothing.
use Rattle.ledger_entries.proofs.StepLaws.{begun}
use Rattle.ledger_entries.proofs.new.Goals as goal

pub returns : goal.returns
returns c =
    begun _ _ _ _ c.new.ensures
