-- The laws of a window, by topic. docs/PROMISES.md leads from each promise to its theorem.
-- ---- the oldest letter
pub mod Oldest
pub mod Departures
-- ---- calls on a window
pub mod Holds
pub mod Calls
pub mod Windows
-- ---- applied
pub mod Instances
