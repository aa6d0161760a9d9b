-- The definitions that the contracts and the laws of `confidential_hart_remote_command` cite.
pub mod Command
pub mod Selection
