-- A statement in the program's walk; what all of them gather; THE LAWS.
pub mod Steps
pub mod Gathered
pub mod Filled
