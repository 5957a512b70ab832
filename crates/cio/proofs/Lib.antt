pub mod Errands
pub mod Starts
pub mod Through
pub mod Outs
pub mod Kept
pub mod Decided
