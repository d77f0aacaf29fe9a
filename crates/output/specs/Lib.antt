-- What is written, the pen that writes it, and what the lent output holds at the end.
pub mod Output
pub mod Ended
pub mod Packed
pub mod Pen
