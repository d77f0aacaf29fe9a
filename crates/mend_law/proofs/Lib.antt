-- The mending tool.
pub mod Samples
pub mod Nasty
pub mod Ties
pub mod Kept
pub mod Room
pub mod Settled
