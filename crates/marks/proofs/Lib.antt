-- How marks are kept (Marks), what they say (Seen), the loops' laws (Walked); for the crates above: what rows say over tables of given rows (Rows).
pub mod Marks
pub mod Seen
pub mod Walked
pub mod Rows
