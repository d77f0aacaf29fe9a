-- An accepted text stays.
pub mod Said
-- What is promised of a text that was mended.
pub mod Again
