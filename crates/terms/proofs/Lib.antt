-- Laws of the words, of tests, and of what antt computes over a whole table.
pub mod Lists
pub mod Tests
pub mod Computed
