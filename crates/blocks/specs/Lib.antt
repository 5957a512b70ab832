pub mod Blocks
pub mod Opening
pub mod Made
pub mod Specified
