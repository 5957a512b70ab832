pub mod Laws
pub mod Reading
pub mod Keeps
pub mod Back
pub mod Puts
pub mod Decided
