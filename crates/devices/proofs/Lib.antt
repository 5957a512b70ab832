pub mod Frame
pub mod Arms
pub mod Lens
pub mod Keeps
pub mod Images
pub mod Alike
pub mod Decided
pub mod Marks
