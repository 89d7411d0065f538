pub mod Columns
pub mod Reading
