-- When a reader with room enough accepts a text, told by walks with few tables.
pub mod Left
pub mod Entries
pub mod Room
pub mod Deciding
