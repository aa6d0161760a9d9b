-- What the contracts on the lines of requests cite.
pub mod Lines
pub mod FieldRequests
