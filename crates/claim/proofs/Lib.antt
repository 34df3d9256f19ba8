pub mod Spans
pub mod Cases
