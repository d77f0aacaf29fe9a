-- What a route gets, executable.
pub mod Judged
