-- A line as planners see it, and a byte in words.
pub mod Shown
