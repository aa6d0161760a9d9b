-- The laws of where harts stand.
pub mod ChangedLaws
pub mod StandLaws
pub mod MoveLaws
pub mod SentLaws
