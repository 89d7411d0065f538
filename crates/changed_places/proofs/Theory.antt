-- The laws of the changed place, by topic. docs/PROMISES.md leads from each promise to its theorem.
pub mod ChangedPlaces
pub mod ChangedCells
pub mod MoveTogether
pub mod TakenApart
-- ---- cases
pub mod PlaceCases
