pub mod Calls
pub mod Zeros
pub mod Decided
