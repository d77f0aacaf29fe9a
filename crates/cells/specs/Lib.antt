-- What every cell says.
pub mod Cells
