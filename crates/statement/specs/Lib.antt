-- What the program's statements mean, and the columns of their kinds.
pub mod Meaning
pub mod Kinds
pub mod MissionMeaning
pub mod MissionKinds
