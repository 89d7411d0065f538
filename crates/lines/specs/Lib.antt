pub mod TableauLine
pub mod RunLine
