-- What a line that is not blank says, as Rust's `Result`. Assumes nothing.
use Rattle.std.specs.Prelude.{ℕ, Result}
use Rattle.statement.specs.declared.Order.{Order}
use Rattle.mission_place.specs.declared.MissionPlace.{MissionPlace}

-- One order, with the place behind it and the line's end; or the number that refuses it.
abbrev pub MissionSaid : Type 0
MissionSaid = Result (Order × MissionPlace × ℕ) ℕ
