-- The verdict test by test; that it is the law's.
pub mod Parts
pub mod Found
