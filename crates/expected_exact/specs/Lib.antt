-- The forms of a place, executable.
pub mod Listed
