-- What is taken from the readers' contracts.
pub mod Replied
-- The contracts over statements, and over lines.
pub mod Lawful
-- What the program does, as the contracts say it.
pub mod Steps
