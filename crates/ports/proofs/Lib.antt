pub mod Own
pub mod Decided
