pub mod Records
pub mod Laws
pub mod Shown
pub mod Decided
