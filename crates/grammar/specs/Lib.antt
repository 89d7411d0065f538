pub mod Numbers
pub mod Lines
pub mod Reading
pub mod Values
pub mod Breaks
