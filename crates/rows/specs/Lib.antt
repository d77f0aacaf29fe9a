-- How rows lie in lent slices, the columns of each table, what is read of them, whole tables, names.
pub mod Lay
pub mod Strides
pub mod Columns
pub mod Read
pub mod Table
pub mod Name
