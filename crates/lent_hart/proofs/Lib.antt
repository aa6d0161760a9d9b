-- What belongs to no one function of `lent_hart`, and what other crates use.
pub mod RefusalLaws
