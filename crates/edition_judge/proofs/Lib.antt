-- For the functions: what has a bar.
pub mod Had
-- A line of an edition.
pub mod Lines
pub mod Told
-- A text of an edition.
pub mod EditionWalk
