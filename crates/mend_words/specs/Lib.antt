-- What planners are told of mending.
pub mod Told
