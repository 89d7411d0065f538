pub mod RecordingCells
pub mod Entries
pub mod Falls
pub mod Pair
