pub mod Bytes
pub mod Letters
pub mod Passed
