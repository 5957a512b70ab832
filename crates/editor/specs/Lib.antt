pub mod Text
pub mod Get
pub mod Fit
