-- WHAT A READER MUST BELIEVE. What a mending replies, as Rust's `Result`. Assumes nothing.
use Rattle.std.specs.Prelude.{ℕ, Result}
use Rattle.refusal.specs.declared.Refusal.{Refusal}

-- How many lines were changed and how many bytes were written; or a refusal.
abbrev pub MendReply : Type 0
MendReply = Result (ℕ × ℕ) Refusal
