-- What the passes say of the rows told.
pub mod Listed
pub mod Fields
pub mod Lanes
pub mod Turns
pub mod Checkpoints
pub mod Exits
pub mod Zones
pub mod Parts
