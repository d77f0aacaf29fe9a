-- The laws of the loops.
pub mod Storing
