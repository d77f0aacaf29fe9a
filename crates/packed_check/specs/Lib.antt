-- What is judged.
pub mod Judgement
