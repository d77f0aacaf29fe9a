-- What a table's rows read as.
pub mod Reads
