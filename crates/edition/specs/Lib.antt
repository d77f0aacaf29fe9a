-- Which edition of the format a text is read by.
pub mod Editions
