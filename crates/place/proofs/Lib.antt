-- The laws of places; Theorems and Stepped have those that other crates cite.
pub mod Rest
pub mod Has
pub mod Table
pub mod Cells
pub mod Stepped
pub mod Theorems
