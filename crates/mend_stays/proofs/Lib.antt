-- An accepted text stays.
pub mod Small
pub mod Alike
pub mod Told
pub mod Unlisted
pub mod Fields
pub mod Lines
pub mod Passing
pub mod Counting
pub mod Giving
pub mod Groups
pub mod Lanes
pub mod Segments
pub mod Perimeters
pub mod Spots
pub mod Zones
pub mod Networks
pub mod Stays
