-- A text of an MDF read into lent tables.
pub mod Storing
pub mod Reading
