-- Laws of scanning.
pub mod Reach
pub mod Bytes
pub mod Equal
pub mod Eights
pub mod Passing
