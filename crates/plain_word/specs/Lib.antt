-- A word that stands in a text, and the tables' rows.
pub mod Stands
