pub mod Move
pub mod Lends
