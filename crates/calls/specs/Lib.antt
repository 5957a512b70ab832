pub mod Port
pub mod Stick
pub mod Calls
pub mod Bytes
pub mod Parts
pub mod Returned
