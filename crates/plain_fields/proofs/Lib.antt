-- Fields one behind the other make a line (Fields), and what it gets (Judged).
pub mod Fields
pub mod Judged
