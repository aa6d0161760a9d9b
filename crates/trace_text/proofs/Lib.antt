-- What belongs to no one function of `trace_text`, and what other crates use.
pub mod DigitLaws
pub mod SpelledLaws
pub mod WriteLaws
