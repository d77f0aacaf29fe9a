-- Lines and their statements.
pub mod Lines
pub mod Moved
-- What can be written, and that what a text spells can be.
pub mod Writable
pub mod Named
-- What does not look into names: the house order, spelling, rows and references.
pub mod Order
pub mod SameSpelling
pub mod References
-- Without the date.
pub mod Undated
-- The return trip.
pub mod Theorems
-- As the law has it.
pub mod Lawful
-- Decided.
pub mod YardA
