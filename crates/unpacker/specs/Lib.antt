-- What is told of bytes.
pub mod Telling
