pub mod Laws
pub mod Keeps
pub mod Cases
pub mod Decided
pub mod Specified
