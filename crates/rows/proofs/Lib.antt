-- Laws of rows: over any stride, of whole tables, and each table's own; names.
pub mod Lay
pub mod Tables
pub mod Forms
pub mod Names
