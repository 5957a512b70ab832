pub mod Lengths
pub mod Tables
pub mod WriteRead
pub mod ReadWrite
pub mod Fields
pub mod Ports
pub mod States
