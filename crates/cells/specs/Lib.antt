pub mod Modes
pub mod Cells
pub mod Scrolls
