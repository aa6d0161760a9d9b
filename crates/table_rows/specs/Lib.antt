-- The definitions that the contracts of `table_rows` cite.
pub mod Rows
pub mod Choice
pub mod Lists
