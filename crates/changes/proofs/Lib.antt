pub mod Laws
pub mod Replaying
pub mod Decided
