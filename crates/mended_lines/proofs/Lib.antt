-- Steps, and the law of numbers.
pub mod Numbers
