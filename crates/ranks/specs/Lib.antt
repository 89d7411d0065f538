pub mod Unranked
pub mod Ranks
pub mod Cases
