-- Right: what is told is what the law says. Settled: no second answer. Inner: Cases, Lines and Answers, the definitions of specs/Words by the cases of the code.
mod Cases
mod Lines
pub mod Right
mod Answers
pub mod Settled
