-- What a line gets at a place.
pub mod Judging
pub mod RndfLine
