pub mod Forms
pub mod Turned
pub mod Trips
