pub mod Laws
pub mod Truths
pub mod Claims
pub mod Sums
pub mod Kept
pub mod Walking
pub mod Decided
