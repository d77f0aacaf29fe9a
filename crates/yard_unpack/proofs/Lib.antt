-- What the contract of this program says of packed bytes.
pub mod Told
