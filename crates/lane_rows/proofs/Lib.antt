-- No row before a part's first is touched.
pub mod Rows
