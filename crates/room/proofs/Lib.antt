-- A number that fits is kept.
pub mod Fitted
