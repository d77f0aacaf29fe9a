-- What the loop goes by.
pub mod Laws
-- The part before it.
pub mod Opening
-- What is found means what it says, and nothing else does.
pub mod Means
