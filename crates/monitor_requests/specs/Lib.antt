-- The definitions that the promises of the monitor cite.
pub mod Tables
pub mod Soundness
pub mod FromNumbers
pub mod Answers
pub mod Requests
pub mod Writes
