-- The definition that the contracts of `lent_hart` cite.
pub mod Lent
