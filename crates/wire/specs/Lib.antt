pub mod Messages
pub mod Giving
pub mod Fits
pub mod Spelling
pub mod Fields
