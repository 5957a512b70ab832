pub mod Stores
pub mod Keeps
pub mod Copies
pub mod Cases
pub mod Decided
pub mod Fetched
