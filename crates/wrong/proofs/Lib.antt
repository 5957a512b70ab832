pub mod Cores
pub mod Rules
pub mod Tapes
