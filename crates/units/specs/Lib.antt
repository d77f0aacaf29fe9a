-- Which numbers are of which kind, and what the constructors answer.
pub mod Range
pub mod Made
