-- The theory, by topic. docs/PROMISES.md leads from each promise to its theorem.
-- ---- words and their pairs
pub mod Occurrences
pub mod Pairs
pub mod Letters
pub mod Marks
pub mod Layers
pub mod Places
pub mod Contents
pub mod Once
pub mod Limits
-- ---- tableaux as cells, column reading
pub mod Cells
pub mod Seating
pub mod Boundary
pub mod ReadBack
pub mod Joining
pub mod Factors
pub mod Columns
pub mod InsertRead
pub mod NormalForm
-- ---- the correspondence
pub mod Placing
pub mod Recordings
pub mod Removal
pub mod Correspondence
-- ---- classes
pub mod Invariants
pub mod Bits
pub mod NextLarger
pub mod DownSteps
pub mod Rows
pub mod SameClass
pub mod OneClass
pub mod WeightOrder
-- ---- cases
pub mod Examples
