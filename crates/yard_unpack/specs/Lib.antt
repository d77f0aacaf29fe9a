-- What the planners' check of a packed network puts out.
pub mod Tells
