-- The rows used of each table. The law (crate `law`) and the old definitions stand in their own crates.
pub mod Used
