-- What belongs to no one function of `confidential_flow_remote_commands`.
pub mod SentLaws
