pub mod Transfer
pub mod Left
pub mod Alone
pub mod Fit
pub mod Moves
pub mod Ending
pub mod Loading
