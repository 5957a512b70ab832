pub mod Fits
pub mod Whole
