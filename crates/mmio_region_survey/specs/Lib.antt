-- The definitions that the contracts of `mmio_region_survey` cite.
pub mod Survey
