-- What belongs to no one function of `confidential_flow`.
pub mod ResumeLaws
