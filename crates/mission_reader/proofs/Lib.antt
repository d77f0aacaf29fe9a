-- Laws of the reader of an MDF: its parts together; a name stands in its text; what the walk found; 14 to 18; no two replies; THE THEOREM.
pub mod Steps
pub mod Standing
pub mod Found
pub mod References
pub mod OneReply
pub mod Theorems
