-- A text walked line by line.
pub mod Standing
pub mod Walking
pub mod Seeing
