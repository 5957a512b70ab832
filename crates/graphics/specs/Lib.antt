pub mod Picture
pub mod Fit
pub mod Back
