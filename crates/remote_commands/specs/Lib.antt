-- The definitions that the contracts and the laws of `remote_commands` cite.
pub mod Queue
