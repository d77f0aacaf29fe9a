-- What can be said of a loaded file.
pub mod Loads
-- What is told of a file that can't be taken.
pub mod Troubles
-- What can be said of an argument.
pub mod Names
