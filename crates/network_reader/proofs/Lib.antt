-- Laws of the readers.
pub mod Steps
pub mod Rooms
pub mod Referring
pub mod Theorems
