-- What is proved of the step of the comparison. docs/PROMISES.md leads from each promise to its theorem.
pub mod Steps
