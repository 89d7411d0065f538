pub mod Blank
pub mod Letters
pub mod Narrowed
pub mod Items
pub mod Limits
