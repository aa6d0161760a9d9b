-- What the contracts of `ledger_entries` cite.
pub mod Steps
