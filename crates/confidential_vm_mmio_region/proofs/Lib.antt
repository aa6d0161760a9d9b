-- What belongs to no one function of `confidential_vm_mmio_region`, and what other crates use.
pub mod RegionLaws
