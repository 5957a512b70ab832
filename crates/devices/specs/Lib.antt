pub mod Groups
pub mod Lent
pub mod Media
pub mod Fit
pub mod Marks
pub mod Placed
pub mod Kept
