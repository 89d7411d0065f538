pub mod Replies
pub mod Handing
