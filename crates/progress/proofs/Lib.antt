-- Laws of what there is so far.
pub mod Rest
pub mod Steps
pub mod Shown
pub mod ByMeaning
