-- The numbers are apart; either side of the longest text.
pub mod Apart
pub mod Sized
