-- What holds of moves and routes.
pub mod Places
pub mod Settled
pub mod Decided
pub mod Goals
pub mod Worked
