pub mod ChangedPlaces
pub mod Cases
