-- The passes over the given lines that walk no places.
pub mod Passes
