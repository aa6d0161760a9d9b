-- Where a hart stands.
pub mod Standing
