-- WHAT A READER MUST BELIEVE. What a list of numbers gets, as Rust's `Result`. Assumes nothing.
use Rattle.std.specs.Prelude.{⊤, Result}
use Rattle.refusal.specs.declared.Refusal.{Refusal}

-- Every number has its answer; or the two lists differ in length.
abbrev pub ListReply : Type 0
ListReply = Result ⊤ Refusal
