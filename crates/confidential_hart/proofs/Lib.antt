-- What belongs to no one function of `confidential_hart`, and what other crates use.
pub mod HartLaws
pub mod StatusLaws
pub mod StartLaws
pub mod Examples
pub mod TransitionLaws
