pub mod Digits
pub mod Sizes
