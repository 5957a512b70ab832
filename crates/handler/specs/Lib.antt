pub mod Answer
pub mod Acts
pub mod InOrder
