-- A line that stands in a text, and what a statement gets at a place.
pub mod LineStands
