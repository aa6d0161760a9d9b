-- What belongs to no one function of `held_hart`, and what other crates use.
pub mod HeldLaws
