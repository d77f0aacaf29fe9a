-- What stands at a place of a text.
pub mod Stands
