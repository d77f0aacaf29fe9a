-- The sentences that planners get.
pub mod Sentences
pub mod Answers
