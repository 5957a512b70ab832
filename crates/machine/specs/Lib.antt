pub mod Spells
pub mod Real
pub mod Sticks
pub mod Course
pub mod Statuses
