pub mod Sums
pub mod Laws
pub mod Judging
pub mod Made
pub mod Decided
