-- The line of a statement.
pub mod FoundLines
