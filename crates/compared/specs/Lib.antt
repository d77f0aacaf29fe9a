-- Two writings compared.
pub mod Compared
