pub mod Disk
pub mod Fit
pub mod Left
pub mod Reads
pub mod Says
pub mod Opens
