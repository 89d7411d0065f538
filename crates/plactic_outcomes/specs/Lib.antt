pub mod Judgements
pub mod Operations
pub mod Cases
