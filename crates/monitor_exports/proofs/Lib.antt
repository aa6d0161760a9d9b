-- What belongs to no one function of `monitor_exports`.
pub mod ReplyLaws
