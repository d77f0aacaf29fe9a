-- The laws of the tables and of verdicts.
pub mod Laws
pub mod Verdicts
