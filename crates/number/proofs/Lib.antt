-- Laws of integers and identifiers in fields. Callers cite Integers, Identifiers, Ranges and House; writers of digits Decimals too.
-- For each kind K of integer, pair, triple:
--   K-right: an answer that is a value is spelled.  K-only: what is spelled is the answer.
--   K-no, K-none: `None` exactly if nothing is spelled.  K-same: two values never share a spelling.
--   K-means, K-meant: the answer means what Meaning says, and no other answer does.  K-bound: the raw bound of a value that was read.
--   house-K-spells, house-K-reads: the house spelling spells its value, and reading it gives the value.
--   house-K-one: nothing else spells the value.  house-K-same: two values never share a house spelling.
--   house-K-short, house-K-bytes, house-K-first: its length, its bytes, its first byte.
--   K-short, K-bytes, K-first: the same of any field that spells a value.
pub mod Digits
pub mod Decimals
pub mod Integers
pub mod Identifiers
pub mod Ranges
pub mod House
