pub mod Young
pub mod FlatForm
pub mod Schensted
pub mod WayBack
pub mod ByRows
