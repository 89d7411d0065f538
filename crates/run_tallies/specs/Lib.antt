pub mod Tallies
pub mod Leads
pub mod Tables
