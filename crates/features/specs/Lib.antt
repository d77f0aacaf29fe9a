-- What is put of any tables.
pub mod Drawn
