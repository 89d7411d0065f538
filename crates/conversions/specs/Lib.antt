pub mod Values
pub mod Conversions
pub mod Program
