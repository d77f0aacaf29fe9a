-- The rows of the tables, a cell of one, and what becomes of a statement.
pub mod RndfRows
pub mod MdfRows
pub mod Cells
pub mod Verdicts
