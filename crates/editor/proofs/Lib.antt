pub mod Ends
pub mod Rows
pub mod Gets
pub mod Keeps
pub mod Decided
