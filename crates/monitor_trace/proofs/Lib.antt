-- What belongs to no one function of `monitor_trace`.
pub mod TurnLaws
pub mod LineLaws
