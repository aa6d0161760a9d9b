-- What belongs to no one function of `effects`, and what other crates use.
pub mod EffectLaws
