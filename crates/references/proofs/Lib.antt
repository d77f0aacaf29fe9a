-- Steps of the functions' proofs (Finds, ExitSteps, Stored) and the laws: the entry at a place (Entries), what is read of tables of given rows (Looks), the exits
-- and the checkpoint numbers of given rows (Exits, Repeats), no second answer (Settled).
pub mod Finds
pub mod ExitSteps
pub mod Stored
pub mod Entries
pub mod Looks
pub mod Exits
pub mod Repeats
pub mod Settled
