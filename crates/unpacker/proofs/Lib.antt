-- What the program does, as the contract says it.
pub mod Steps
