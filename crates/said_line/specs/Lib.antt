-- What a line of an RNDF says.
pub mod Types
pub mod Saying
