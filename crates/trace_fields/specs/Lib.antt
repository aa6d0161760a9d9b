-- What the contracts on reading a line cite.
pub mod Fields
