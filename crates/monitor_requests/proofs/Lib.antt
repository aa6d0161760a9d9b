-- The laws of the definitions.
pub mod JudgedLaws
pub mod AnswerLaws
pub mod SoundLaws
pub mod ChangeLaws
pub mod MoveLaws
pub mod SetupLaws
pub mod DoingLaws
pub mod HeldLaws
pub mod RegionLaws
pub mod BroadcastLaws
pub mod RequestLaws
pub mod WriteLaws
pub mod Examples
pub mod TellLaws
pub mod SureLaws
