-- Laws of what a line says.
pub mod Cuts
