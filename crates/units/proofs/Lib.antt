-- The kinds' ranges, both ways.
pub mod Ranges
