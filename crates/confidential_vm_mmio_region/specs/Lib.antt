-- The definitions that the contracts of `confidential_vm_mmio_region` cite.
pub mod Region
