-- What becomes of a line, going forward.
pub mod WordKinds
pub mod Points
pub mod Steps
pub mod Changes
pub mod Ahead
