pub mod Held
pub mod WordWritten
pub mod NumberFound
pub mod Classes
