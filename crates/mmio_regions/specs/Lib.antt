-- The definitions that the contracts of `mmio_regions` cite.
pub mod Regions
pub mod Table
