pub mod Faults
pub mod Found
pub mod Rising
pub mod Steps
