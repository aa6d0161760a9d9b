-- What belongs to no one function of `trace_rendering`, and what other crates use.
pub mod RenderedLaws
