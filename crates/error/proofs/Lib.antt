-- What belongs to no one function of `error`, and what other crates use.
pub mod NumberLaws
