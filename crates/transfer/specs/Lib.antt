pub mod Transfer
pub mod Spans
