-- The file's record, and records of segments, zones and spots.
pub mod Names
pub mod Named
pub mod Segments
pub mod Zones
pub mod Spots
pub mod File
