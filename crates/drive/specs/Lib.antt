-- What a mission gets, executable.
pub mod Verdict
