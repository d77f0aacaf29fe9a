-- What there is room for.
pub mod Room
