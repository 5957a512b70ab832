pub mod Answers
pub mod Shape
pub mod Ports
pub mod Running
pub mod Statuses
pub mod ReadBack
pub mod Warned
pub mod FileGets
