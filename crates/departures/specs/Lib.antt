pub mod Checks
pub mod Departure
