-- The contracts of the parts that judge an accepted pair.
pub mod Checks
