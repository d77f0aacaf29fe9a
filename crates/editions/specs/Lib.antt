-- What an edition refuses beside the present one.
pub mod Bars
