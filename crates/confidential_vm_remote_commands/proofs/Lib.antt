-- What belongs to no one function of `confidential_vm_remote_commands`.
pub mod TurnLaws
pub mod HomesLaws
