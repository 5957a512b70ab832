pub mod Decide
pub mod Put
pub mod OneLine
