pub mod Names
pub mod Matching
pub mod Fields
pub mod Read
