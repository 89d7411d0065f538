pub mod Removal
pub mod Choices
pub mod Numbered
pub mod Lettered
