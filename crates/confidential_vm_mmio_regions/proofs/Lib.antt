-- What belongs to no one function of `confidential_vm_mmio_regions`.
pub mod EntryLaws
