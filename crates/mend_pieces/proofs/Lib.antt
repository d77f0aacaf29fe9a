-- What comes out of the mending tool, piece by piece.
pub mod Steps
-- A line whose number is replaced.
pub mod Recounted
