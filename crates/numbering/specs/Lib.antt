pub mod Dictionary
pub mod Operations
pub mod Compositions
pub mod Orders
pub mod Cases
