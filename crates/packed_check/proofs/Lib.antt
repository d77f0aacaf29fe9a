-- How the code comes to what is judged; and the law of the judge.
pub mod Steps
pub mod Where
pub mod Linked
pub mod Passed
pub mod Law
