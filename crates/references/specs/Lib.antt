-- The entry that stands at a place of the text, the point that it names, exits with their points.
pub mod Entry
pub mod Finding
pub mod Exits
