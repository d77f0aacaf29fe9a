-- The entries of the exits' lines; what is read of the filled tables.
pub mod Entries
pub mod Looks
-- What is answered over the filled tables.
pub mod Theorems
