-- What belongs to no one function of `trace_answers`, and what other crates use.
pub mod PrintedLaws
pub mod OutcomeLaws
