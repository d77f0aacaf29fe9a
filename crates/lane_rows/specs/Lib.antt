-- What a part does to the rows of points.
pub mod Rows
