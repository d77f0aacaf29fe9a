-- What a reader of an MDF knows behind each statement, and the row that a statement gives.
pub mod Given
pub mod Progress
