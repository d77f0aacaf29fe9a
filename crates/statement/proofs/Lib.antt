-- The laws of statements and orders.
pub mod Laws
pub mod MissionLaws
