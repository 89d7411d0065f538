pub mod Counting
pub mod Passed
