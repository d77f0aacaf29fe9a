-- What rows say, and the tests over the numbers that were there (Rows, Tests: these are cited by others); the marks (Marks: only contracts of private functions here cite it).
pub mod Rows
pub mod Tests
pub mod Marks
