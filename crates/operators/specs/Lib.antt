pub mod Targets
pub mod Changes
pub mod Moves
