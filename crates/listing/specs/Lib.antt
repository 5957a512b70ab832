pub mod Directory
pub mod Listing
