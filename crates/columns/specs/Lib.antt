-- The column of a refusal, over the program's types.
pub mod Locating
pub mod RndfColumns
pub mod MdfColumns
