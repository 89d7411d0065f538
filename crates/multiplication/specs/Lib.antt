pub mod Downs
pub mod Merging
pub mod Sums
pub mod Product
