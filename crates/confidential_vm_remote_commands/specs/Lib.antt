-- The definitions that the contracts of `confidential_vm_remote_commands` cite.
pub mod Homes
