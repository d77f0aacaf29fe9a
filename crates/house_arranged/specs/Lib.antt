-- What has a rank, put in order; the ranks of statements.
pub mod Order
pub mod Ranks
