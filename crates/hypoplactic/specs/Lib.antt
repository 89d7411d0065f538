pub mod Words
pub mod Rewriting
pub mod Ribbons
pub mod Insertion
pub mod Reading
pub mod Places
pub mod Junctions
pub mod Weights
