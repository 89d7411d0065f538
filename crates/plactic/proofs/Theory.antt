-- The theory, by topic. docs/PROMISES.md leads from each promise to its theorem.
-- ---- insertion, one row and all rows
pub mod Taking
pub mod ByRows
pub mod Inserting
pub mod FewRows
pub mod Contents
-- ---- the flat form
pub mod FlatForm
pub mod Cutting
-- ---- the way back
pub mod Largest
pub mod Onto
pub mod Correspondence
-- ---- cases
pub mod Cases
