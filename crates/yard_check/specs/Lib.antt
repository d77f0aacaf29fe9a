-- What the planners' program puts out.
pub mod Tells
