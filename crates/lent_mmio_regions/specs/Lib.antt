-- The definitions that the contracts and the laws of `lent_mmio_regions` cite.
pub mod Run
pub mod Agreement
