-- What a text spells, and what is answered of it.
pub mod Said
pub mod RndfLines
pub mod MdfLines
pub mod Spelling
pub mod Judge
pub mod Answers
pub mod Refusals
pub mod HouseLine
pub mod KeywordRows
pub mod RndfWords
pub mod MdfWords
pub mod Faults
