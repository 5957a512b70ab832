pub mod Checks
pub mod Decided
