pub mod Table
pub mod Translation
pub mod Keyboard
pub mod Fit
pub mod Press
