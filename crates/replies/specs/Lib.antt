pub mod Replies
pub mod Fetched
