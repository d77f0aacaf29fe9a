-- The forms of a place, and the words of a list of them.
pub mod Forms
pub mod Listing
