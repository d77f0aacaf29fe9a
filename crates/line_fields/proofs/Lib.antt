-- What stands behind the last of them.
pub mod LastField
