-- What belongs to no one function of `table_rows`, and what other crates use.
pub mod PickLaws
pub mod EveryLaws
pub mod ExistsLaws
pub mod ListLaws
pub mod RowLaws
pub mod PartLaws
pub mod RunLaws
pub mod ZeroLaws
