pub mod Sweeps
pub mod Rows
