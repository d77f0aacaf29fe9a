-- The refusal that each answer stands for.
pub mod Numbers
