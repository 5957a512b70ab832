pub mod Acts
pub mod Keeps
pub mod Decided
pub mod Back
