-- What is said of a line that is plain.
pub mod Types
pub mod Orders
