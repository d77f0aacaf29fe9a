pub mod Found
pub mod Spans
pub mod Groups
pub mod Filled
pub mod Parts
pub mod Leads
pub mod Theorem
