-- What a reader must believe, bottom up: Moves, Routes.
pub mod Moves
pub mod Routes
