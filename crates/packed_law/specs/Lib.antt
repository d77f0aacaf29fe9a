-- The packed form of a network; yard A's.
pub mod Packed
pub mod Yards
