-- The passes over checkpoints and exits, and the walk over parts.
pub mod Numbers
pub mod Entries
pub mod Parts
