-- What can be said of an argument. Which bytes the system hands over, no contract knows. Assumes nothing.
use Rattle.std.specs.Prelude.{ℕ, ◌≤◌, length, Some, None, Option}
use Rattle.terms.specs.Ascii.{Bytes}

-- `name`: the lent one, as it is left. The argument's bytes stand at its front
abbrev pub IsGiven : (name : Bytes) → Option ℕ → Type 0
IsGiven name (Some n) = n ≤ length name
IsGiven name None = Unit {0}
