-- Laws of a text's lines in house order. No other crate needs them: `put_house` says it all by `arranged_text` and `Wrote`.
-- Ranks: the rank of a word by comparison is its rank by number.  Heard: what is known of a line is what its fields are (`heard`).
-- Order: one line from its fields (`line-put`), one line more in a pass and in the whole (`pass_step`, `house-step`), and how a loop keeps
-- what is still to put (`goes_on`, `is-over`).
mod Ranks
mod Heard
mod Order
