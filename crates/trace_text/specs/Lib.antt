-- What the contracts on text cite.
pub mod Text
