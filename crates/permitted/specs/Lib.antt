-- What the tests answer, and what is owed.
pub mod Tests
pub mod MissionTests
pub mod Owed
