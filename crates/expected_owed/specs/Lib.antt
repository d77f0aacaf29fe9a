-- How many lines are still owed at a place (Owed).
pub mod Owed
