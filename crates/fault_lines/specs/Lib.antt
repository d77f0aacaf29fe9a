-- The first line at fault.
pub mod FaultLines
