-- What a plain line says.
pub mod Fields
pub mod Plain
