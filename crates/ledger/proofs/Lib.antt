-- The theorem, and the laws that it needs.
mod ReadLaws
mod NextLaws
mod StepLaws
mod WordLaws
mod AgreeLaws
mod RecordLaws
pub mod Theorem
mod Example
