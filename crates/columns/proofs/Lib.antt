-- Laws of the column.
pub mod Bounds
pub mod Ties
pub mod RndfTies
pub mod MdfTies
pub mod Theorems
