-- The place behind the lines before the one that is wanted.
pub mod Before
