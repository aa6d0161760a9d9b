-- What belongs to no one function of `trace_requests`, and what other crates use.
pub mod FieldRequestLaws
pub mod LineLaws
