-- The laws of letter counts, by topic. docs/PROMISES.md leads from each promise to its theorem.
-- ---- two tableaux
pub mod StoredCounts
pub mod TwoTableaux
-- ---- counts in lent memory after a call
pub mod MovedEntries
pub mod ReadCounts
pub mod CountsHeld
pub mod NextCalls
-- ---- cases
pub mod Cases
