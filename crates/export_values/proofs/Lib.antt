-- What belongs to no one function of `export_values`.
pub mod ExportLaws
