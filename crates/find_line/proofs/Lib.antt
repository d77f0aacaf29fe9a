-- Laws of the line of a statement.
pub mod FirstFields
pub mod Counting
pub mod RndfLines
pub mod MdfLines
pub mod Theorems
