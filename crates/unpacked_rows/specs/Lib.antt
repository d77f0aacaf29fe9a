-- The row that a record tells, and whole tables of them.
pub mod Told
pub mod Stored
-- The tests of 27 and 28.
pub mod Front
