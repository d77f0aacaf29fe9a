-- The keywords and boundary words, the number of one, and what the code's tables hold.
pub mod Keywords
pub mod Number
pub mod Packed
pub mod Table
