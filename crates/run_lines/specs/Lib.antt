pub mod Runs
pub mod Judgements
pub mod Operations
pub mod Classes
pub mod Cases
