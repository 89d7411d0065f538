pub mod Conversion
pub mod Cases
