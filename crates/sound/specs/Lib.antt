pub mod Sound
pub mod Order
pub mod Repair
pub mod Treated
