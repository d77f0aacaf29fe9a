-- The walk over the lines that come out of the mending tool.
pub mod Alone
pub mod Counted
pub mod Steps
