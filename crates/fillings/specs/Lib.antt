pub mod Runs
pub mod Layers
pub mod Filled
pub mod Tableau
