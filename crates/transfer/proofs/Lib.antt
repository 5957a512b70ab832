pub mod Transfers
pub mod Outs
pub mod Decided
