-- The laws of words of two ranks, by topic. docs/PROMISES.md leads from each promise to its theorem.
pub mod Cases
pub mod Unranked
pub mod Ranks
pub mod WrittenRanks
pub mod Exchanged
pub mod OneRank
