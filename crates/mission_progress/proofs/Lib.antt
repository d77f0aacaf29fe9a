-- The reader's progress in an MDF is what `fill` says.
pub mod Rest
pub mod Shown
