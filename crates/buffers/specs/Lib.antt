pub mod Shifts
pub mod Pulls
pub mod Copies
