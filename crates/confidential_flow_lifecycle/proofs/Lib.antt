-- What belongs to no one function of `confidential_flow_lifecycle`, and what other crates use.
pub mod StepLaws
