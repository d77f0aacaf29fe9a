-- What a line of an MDF gets at a place.
pub mod MdfLine
