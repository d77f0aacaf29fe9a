-- Why a keyword stands where it is said to.
pub mod Pieces
pub mod Rows
