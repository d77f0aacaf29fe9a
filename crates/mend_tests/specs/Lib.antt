-- The tests that tell whether a reader with room enough accepts a text.
pub mod Tests
