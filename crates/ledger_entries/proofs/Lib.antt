-- What belongs to no one function of `ledger_entries`.
mod StepLaws
