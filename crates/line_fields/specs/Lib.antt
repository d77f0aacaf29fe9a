-- The fields of a line.
pub mod LineFields
