-- The laws of the words of a class, by topic. docs/PROMISES.md leads from each promise to its theorem.
pub mod Multinomials
pub mod Alternating
pub mod CompositionCases
pub mod Counting
pub mod Bounds
pub mod Each
pub mod Choices
pub mod Kept
pub mod Taken
pub mod ClassSize
pub mod Numbers
pub mod DictionaryOrder
pub mod ClassNumbers
pub mod LargeClasses
pub mod ClassReplies
pub mod Ranks
