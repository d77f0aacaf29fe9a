-- Coordinates in fields: what spells them, what the program's answers mean, and the house spelling.
pub mod Spelling
pub mod Sign
pub mod Meaning
pub mod House
pub mod Executable
