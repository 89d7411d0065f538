pub mod Oldest
pub mod Lowering
pub mod Closings
