-- What belongs to no one function of `hart_rows`, and what other crates use.
pub mod HartRowLaws
