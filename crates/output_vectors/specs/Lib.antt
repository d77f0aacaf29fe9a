-- The bytes that the writer shown here writes.
pub mod Point
