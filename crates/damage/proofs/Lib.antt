pub mod Ands
pub mod Marks
pub mod Placed
pub mod Tables
pub mod Phases
pub mod Heads
pub mod Fitting
pub mod Undamaged
