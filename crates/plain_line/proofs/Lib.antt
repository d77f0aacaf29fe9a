-- Why a plain line says what is told of it.
pub mod Spelt
pub mod Made
pub mod Shapes
pub mod Whole
