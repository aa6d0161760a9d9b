-- The definitions that the contracts of `bits` cite.
pub mod Bit
