pub mod Moves
pub mod Through
pub mod Outs
pub mod Kept
pub mod Decided
