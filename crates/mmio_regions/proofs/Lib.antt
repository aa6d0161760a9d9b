-- What belongs to no one function of `mmio_regions`, and what other crates use.
pub mod RegionLaws
pub mod TableLaws
pub mod AddLaws
pub mod RemoveLaws
pub mod SoundLaws
pub mod Examples
