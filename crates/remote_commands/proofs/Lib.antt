-- What belongs to no one function of `remote_commands`.
pub mod QueueLaws
pub mod OfferLaws
pub mod Examples
