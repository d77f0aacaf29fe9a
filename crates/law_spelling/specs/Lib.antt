pub mod LineOf
