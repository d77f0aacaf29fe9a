-- What is read from a row on.
pub mod From
