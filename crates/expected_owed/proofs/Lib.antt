pub mod Owing
pub mod Theorems
