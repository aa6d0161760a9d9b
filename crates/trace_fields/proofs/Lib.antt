-- What belongs to no one function of `trace_fields`, and what other crates use.
pub mod FieldLaws
pub mod ReadLaws
pub mod SpellingLaws
pub mod SoundLaws
pub mod CompleteLaws
pub mod RoomLaws
