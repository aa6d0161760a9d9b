-- What the contracts of the C functions on lines cite.
pub mod TraceExports
