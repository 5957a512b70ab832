pub mod Places
pub mod Stick
pub mod Layout
pub mod Stands
pub mod InBytes
