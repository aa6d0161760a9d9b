-- What belongs to no one function of `hart_lifecycle_state`, and what other crates use.
pub mod LifecycleLaws
