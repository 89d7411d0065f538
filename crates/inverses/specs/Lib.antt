pub mod Recorded
pub mod WayBack
