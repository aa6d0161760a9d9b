-- What the contracts on rendering cite.
pub mod Rendered
