pub mod Laws
pub mod Keeps
pub mod Spelling
pub mod Giving
pub mod Cases
pub mod Decided
pub mod Fields
