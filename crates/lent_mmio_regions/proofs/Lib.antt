-- What belongs to no one function of `lent_mmio_regions`, and what other crates use.
pub mod RemoveLaws
pub mod SurveyLaws
pub mod AnswerLaws
pub mod AgreeLaws
pub mod RunLaws
pub mod Examples
