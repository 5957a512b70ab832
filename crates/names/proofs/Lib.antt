pub mod Laws
pub mod Matching
pub mod Filling
pub mod Reading
pub mod Examples
pub mod Decided
