-- What a reader of an RNDF has so far, what a statement changes in it, and the row that it gives.
pub mod After
pub mod Given
pub mod Shown
