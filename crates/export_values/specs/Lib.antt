-- The definitions that the contracts of `export_values` cite.
pub mod Exports
