-- The definitions that the contracts of `monitor_exports` cite.
pub mod Replies
