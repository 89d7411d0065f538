pub mod Apart
pub mod Pinned
