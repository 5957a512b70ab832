pub mod Laws
pub mod LetterRule
pub mod Range
pub mod Keeps
pub mod Cases
pub mod Decided
pub mod Press
