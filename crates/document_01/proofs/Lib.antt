-- What is proved of document 01's cases.
pub mod Table
mod SureLaws
