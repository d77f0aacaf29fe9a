-- What is told of a refusal.
pub mod Words
