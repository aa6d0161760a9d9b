-- The definitions that the contracts and the laws of `confidential_hart` cite.
pub mod Status
pub mod Hart
pub mod HartStart
pub mod Transition
