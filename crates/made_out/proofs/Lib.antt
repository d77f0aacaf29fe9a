-- What is made of fields is what they say.
pub mod Ties
pub mod MissionTies
pub mod Whole
