-- The laws of the loops, and a worked example.
pub mod WalkLaws
pub mod NameLaws
pub mod RowLaws
pub mod FileLaws
pub mod Worked
