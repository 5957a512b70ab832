pub mod Arms
pub mod Decided
