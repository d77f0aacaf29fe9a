-- The laws of the loops: one row more, and the end.
pub mod Loops
