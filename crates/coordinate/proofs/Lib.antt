-- Laws of coordinates in fields. Callers cite Coordinates and House.
-- Names as in `number`, K being coordinate:
--   K-right: an answer that is a value is spelled.  K-only: what is spelled is the answer.
--   K-no, K-none: `None` exactly if nothing is spelled.  K-same: two values never share a spelling.
--   K-means, K-meant: the answer means what Meaning says, and no other answer does.  K-bound: the raw bound of a value that was read.
--   house-K-spells, house-K-reads: the house spelling spells its value, and reading it gives the value.
--   house-K-one: nothing else spells the value (0 has one more spelling).  house-K-same: two values never share a house spelling.
--   house-K-short, house-K-bytes: its length, its bytes.
--   K-short, K-bytes, K-long (and house-K-long: at least 8 bytes): the same of any field that spells a value.
pub mod Coordinates
pub mod House
