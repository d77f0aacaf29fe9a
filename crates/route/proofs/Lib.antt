-- The laws of specs/Judged, and that it is the law's answer for an accepted pair.
pub mod Steps
pub mod Taking
pub mod Found
pub mod Lawful
