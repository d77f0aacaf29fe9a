-- What a refusal says.
pub mod Shapes
pub mod Numbers
pub mod Size
