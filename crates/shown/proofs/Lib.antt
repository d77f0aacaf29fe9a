-- A line as it is shown, byte by byte; a text's first word.
pub mod Laws
pub mod Lines
pub mod Words
pub mod FirstWord
