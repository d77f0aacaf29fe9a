pub mod Steps
pub mod Barred
pub mod Later
pub mod Columns
