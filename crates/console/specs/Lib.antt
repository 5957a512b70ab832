pub mod Group
pub mod Handlers
pub mod Fit
pub mod Back
