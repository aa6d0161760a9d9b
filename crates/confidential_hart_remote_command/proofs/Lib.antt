-- What belongs to no one function of `confidential_hart_remote_command`.
pub mod CommandLaws
pub mod SelectionLaws
pub mod Examples
