-- The contracts of the entry points. Short: short names, nothing more.
pub mod Types
pub mod Replies
pub mod Short
