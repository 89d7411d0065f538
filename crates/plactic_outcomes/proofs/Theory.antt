-- The theory of what is replied, by topic. docs/PROMISES.md leads from each promise to its theorem.
-- ---- what the checks let through
pub mod Cells
pub mod Judged
pub mod Replies
