pub mod Departures
pub mod Gaps
pub mod Windows
pub mod Cases
