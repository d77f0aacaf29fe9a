-- The row of the start, and what the planners' program for L13 puts out.
pub mod Starts
pub mod Tells
