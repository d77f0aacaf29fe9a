-- What the tests compute to, and what is owed.
pub mod Decided
pub mod Signs
pub mod Computes
pub mod Taken
pub mod Owed
