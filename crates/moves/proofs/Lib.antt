pub mod Halving
pub mod Moves
