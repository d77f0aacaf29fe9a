-- The walk over the lines that come out of the mending tool.
pub mod Walking
