-- Plain lines of an MDF.
pub mod Orders
pub mod Lines
