-- Stretches of a text, and what stands in them.
pub mod Stretches
pub mod Digits
pub mod Joined
pub mod Signs
pub mod Ended
pub mod Names
