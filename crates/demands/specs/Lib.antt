pub mod Bytes
pub mod Told
pub mod Demand1
pub mod Demands
pub mod Routines
