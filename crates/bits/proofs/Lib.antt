-- What belongs to no one function of `bits`, and what other crates use.
pub mod BitLaws
