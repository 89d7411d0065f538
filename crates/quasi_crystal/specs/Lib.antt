pub mod Moves
pub mod Classes
