-- What the texts name, and how a list of it is put.
pub mod Named
pub mod Listing
