-- The numbers that contracts cite.
pub mod Error
