pub mod Sums
pub mod Tables
