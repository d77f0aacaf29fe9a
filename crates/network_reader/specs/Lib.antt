-- The readers.
pub mod Types
pub mod Reading
pub mod Replies
