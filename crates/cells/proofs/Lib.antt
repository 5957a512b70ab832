pub mod Shapes
pub mod Parts
pub mod Scrolls
pub mod Decided
