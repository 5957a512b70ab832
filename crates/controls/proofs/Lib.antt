pub mod Acts
pub mod Puts
pub mod Keeps
pub mod Decided
pub mod OneLine
