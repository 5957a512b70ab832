pub mod Printer
pub mod Fit
pub mod Puts
