-- Within an edition.
pub mod Within
-- The return trip of accepted texts.
pub mod Returns
-- From the contracts of the writers.
pub mod Written
pub mod Writings
-- From the contracts of readers and writers: the headline.
pub mod RoundTrip
-- What is the same apart from its date has one writing.
pub mod OneWriting
