pub mod Products
pub mod Cases
