-- Steps, and the law of what is told.
pub mod Forward
