-- The definitions that the contracts of `hart_lifecycle_state` cite.
pub mod Lifecycle
