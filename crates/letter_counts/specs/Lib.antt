pub mod TwoTableaux
pub mod CountsHeld
pub mod Cases
