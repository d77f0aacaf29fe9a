-- Laws of judging a line.
pub mod Judged
pub mod RndfTies
