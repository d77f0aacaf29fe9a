-- Rows and their words.
pub mod Shown
pub mod Filled
-- The numbers in them, and how many there are.
pub mod Bounds
pub mod RowsAtMost
-- Names: asked for, told in another way.
pub mod Named
pub mod Spelled
pub mod Renamed
-- Decided.
pub mod Examples
