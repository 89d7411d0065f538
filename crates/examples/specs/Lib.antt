pub mod Pinned
pub mod Counted
pub mod Shared
