-- Which bytes are what, and how far a scan goes.
pub mod Allowed
pub mod Begins
pub mod Reach
pub mod Passing
