-- The step of a place, and what a place stands for.
pub mod Step
pub mod Abstract
