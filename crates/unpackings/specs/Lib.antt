-- The contract of unpacking; what is promised of it; cases.
pub mod Unpacks
pub mod Trip
pub mod Cases
