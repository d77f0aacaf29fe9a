-- The contracts of the writers.
pub mod Types
pub mod Writes
