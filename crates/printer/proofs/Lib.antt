pub mod Laws
pub mod Keeps
pub mod Decided
pub mod Puts
