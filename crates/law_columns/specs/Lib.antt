-- The column of a refusal: what a reader must believe of it (Columns), and how it is found (Finding).
pub mod Columns
pub mod Finding
pub mod Files
