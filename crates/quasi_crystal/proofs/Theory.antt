-- The theory of moves, by topic. docs/PROMISES.md leads from each promise to its theorem.
-- ---- moves
pub mod Undo
pub mod MoveRecording
pub mod MoveCounts
pub mod Targets
pub mod MoveTableau
pub mod MoveValid
pub mod Closure
pub mod Repeats
-- ---- classes
pub mod Classes
