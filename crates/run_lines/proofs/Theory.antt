-- The laws of C lines. docs/PROMISES.md leads from each promise to its theorem.
-- ---- runs and tableaux
pub mod Runs
-- ---- what the checks let through, and where they refuse
pub mod Judged
pub mod FirstPlaces
-- ---- what is read and written
pub mod Readings
pub mod Trips
-- ---- demand 3
pub mod Classes
-- ---- applied
pub mod Instances
