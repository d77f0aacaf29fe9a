-- The passes over the given lines: what each does at a line and behind the last.
pub mod Steps
