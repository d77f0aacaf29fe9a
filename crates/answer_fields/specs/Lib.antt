-- The library for C and Rust.
pub mod Answers
