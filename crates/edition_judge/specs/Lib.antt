-- What a line gets in an edition.
pub mod EditionLine
