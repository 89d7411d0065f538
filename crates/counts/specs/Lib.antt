pub mod Blocks
pub mod Comparing
pub mod Tallies
