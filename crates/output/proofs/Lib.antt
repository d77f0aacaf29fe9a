-- Laws of writing. Callers cite Writing, Whole and Counting; of packed numbers Packed.
-- Writing, a run of puts:
--   none: nothing was put.  _then_: one writing behind the other.  same: the same bytes, said otherwise.
--   kept: an output keeps its length.  wrote-one: two pens never come of one writing.
-- Whole, the end of a writer:
--   written: cleared, then any run of puts whose bytes are x in all, then `finish`: the outcome is the output of x.
--   output-is, output-only: the executable outcome is the output, and no other is.  output-one: no two outcomes are outputs of one writing.
--   answered-written, answered-too-long: what the program's answer says.  written-reads: the first n bytes are the writing.
--   finishes-one: what `finish` leaves and answers is settled.
-- Counting, counted: where the pen ends, also where there was no room.
-- Packed: packed-long, packed-bytes: length and bytes of a packed number.  packed-same: two numbers never share them.
pub mod Writing
pub mod Whole
pub mod Counting
pub mod Packed
mod Digits
mod Signs
