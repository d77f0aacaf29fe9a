-- What comes out of the mending tool is what the law says.
pub mod Bounds
pub mod Told
pub mod Lines
pub mod Recounted
