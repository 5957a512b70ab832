pub mod Image
pub mod Place
pub mod Chain
