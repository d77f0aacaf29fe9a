-- The laws of the loops.
pub mod NumberLaws
pub mod EntryLaws
pub mod PartLaws
