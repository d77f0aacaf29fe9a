-- The words that the definitions of every crate use.
pub mod Ascii
pub mod Words
