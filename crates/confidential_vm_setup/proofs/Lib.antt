-- What belongs to no one function of `confidential_vm_setup`, and what other crates use.
pub mod WriteLaws
