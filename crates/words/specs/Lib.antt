pub mod Bits
pub mod Tables
pub mod Given
pub mod Junctions
