pub mod Tests
pub mod Choices
pub mod Table
pub mod Lists
pub mod Parts
pub mod Readers
pub mod Decided
