-- The passes say what the law says.
pub mod Fields
pub mod Passes
pub mod Segments
pub mod Zones
pub mod File
pub mod Spots
pub mod Told
pub mod Frame
