-- Lists with commas, by place; walks over rows.
pub mod Marked
pub mod Passed
