-- The laws of places; Theorems has those that other crates cite.
pub mod Rest
pub mod Table
pub mod Cells
pub mod Theorems
