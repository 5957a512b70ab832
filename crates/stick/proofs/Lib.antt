pub mod Allowed
pub mod Decided
pub mod Going
