-- For the functions: a part that comes back in its place, one statement of the walk.
pub mod Onward
pub mod PartBack
pub mod Steps
-- A point stored in a part of its table.
pub mod Parts
-- What the walk finds: a fault, or the rows of the statements.
pub mod Answered
pub mod ExitLines
pub mod Stored
pub mod Gathered
-- A text that spells a network.
pub mod Kept
pub mod Holding
pub mod Spelled
pub mod ExitStarts
