-- Laws of the entry points.
pub mod Columns
pub mod Lawful
pub mod Steps
pub mod Pairing
