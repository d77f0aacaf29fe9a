-- What comes back.
pub mod Returns
pub mod ReadBack
pub mod RoundTrip
-- What is the same has one writing.
pub mod OneWriting
