-- Integers and identifiers in fields: what spells them, what the program's answers mean, and the house spelling.
pub mod Decimal
pub mod Integer
pub mod Spelling
pub mod Meaning
pub mod House
pub mod Executable
