-- The words of refusals.
pub mod Reasons
