pub mod Acts
pub mod Keeps
pub mod Cases
pub mod Decided
pub mod Back
