-- The laws of the converter. docs/PROMISES.md leads from each promise to its theorem.
-- ---- cases
pub mod Cases
-- ---- what it gives, and where it refuses with 14
pub mod Conversions
pub mod Fourteen
