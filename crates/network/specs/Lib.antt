-- A text of an RNDF read into lent tables.
pub mod Storing
pub mod Reading
pub mod Reaching
