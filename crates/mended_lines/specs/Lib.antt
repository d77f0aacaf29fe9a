-- Which line of the given text a line of the mended text is.
pub mod Given
