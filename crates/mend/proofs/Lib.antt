-- The mending tool.
pub mod Natural
pub mod Deciding
pub mod Leaving
pub mod Steps
pub mod Parts
