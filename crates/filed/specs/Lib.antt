-- What is promised of house writings.
pub mod Filed
-- Worked pairs.
pub mod Pairs
