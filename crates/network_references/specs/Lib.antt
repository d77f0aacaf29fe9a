-- The exits of a network while their entries are not looked up.
pub mod ExitStarts
