-- What the contracts on a trace cite.
pub mod Trace
