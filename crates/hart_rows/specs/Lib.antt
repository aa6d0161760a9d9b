-- The definitions that the contracts of `hart_rows` cite.
pub mod HartRows
