-- What is put.
pub mod Json
