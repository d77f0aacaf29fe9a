-- The search by halving; parts, exits and moves, read of the tables.
pub mod Halving
pub mod Moves
