pub mod Bytes
pub mod Numbers
