-- What holds of every answer of the look-up, and of its loop.
pub mod Answers
pub mod Others
pub mod ListSettled
