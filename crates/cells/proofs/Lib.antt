-- What every cell says, of every machine (CellLaws) and of the two files (Theorems).
pub mod CellLaws
pub mod Theorems
