pub mod Cassette
pub mod Fit
pub mod Reads
pub mod Written
