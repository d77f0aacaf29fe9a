-- A text's own lines in house order.
pub mod Arranged
pub mod Said
