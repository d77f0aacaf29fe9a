-- Rows read one behind the other; filled tables.
pub mod From
