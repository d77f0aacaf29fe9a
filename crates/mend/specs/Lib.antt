-- The mending tool's own tests.
pub mod Mending
