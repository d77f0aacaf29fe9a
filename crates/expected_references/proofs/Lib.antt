-- How lists are put, and the walks over lines that put them.
pub mod Listed
pub mod Steps
pub mod Walks
