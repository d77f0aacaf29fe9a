-- The look-up of a checkpoint number's point.
pub mod Types
pub mod Listed
pub mod LookUp
pub mod Others
