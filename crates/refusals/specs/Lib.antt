pub mod Said
pub mod Numbers
pub mod Scanning
pub mod Chains
pub mod Running
pub mod Outcomes
