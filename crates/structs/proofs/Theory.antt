pub mod Told
pub mod Pinned
