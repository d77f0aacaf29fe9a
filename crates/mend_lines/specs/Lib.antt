-- What becomes of a line, going forward.
pub mod Forward
