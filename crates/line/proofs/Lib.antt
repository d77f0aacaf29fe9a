-- Laws of lines, comments and fields.
pub mod Cuts
pub mod Ends
pub mod Finds
pub mod Comments
pub mod Spelled
pub mod Contents
pub mod Faults
pub mod Spans
pub mod Located
pub mod Examples
pub mod Plain
