pub mod Laws
pub mod Standing
pub mod Chain
pub mod Placed
pub mod Decided
