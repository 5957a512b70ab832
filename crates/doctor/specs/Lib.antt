pub mod Doctor
pub mod Visits
