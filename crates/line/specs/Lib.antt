-- Lines, comments, fields: what they are, and how they are found.
pub mod Line
pub mod Text
pub mod Content
pub mod Cutting
pub mod Faults
pub mod Located
pub mod Lines
pub mod Forms
