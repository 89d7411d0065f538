pub mod Output
pub mod Printing
pub mod ThreeLines
pub mod Longest
pub mod Answer
