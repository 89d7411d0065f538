pub mod Clear
pub mod Seen
pub mod Entries
pub mod Noted
