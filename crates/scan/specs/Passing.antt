-- What the loops of src/ say of the test that they are given. Assumes nothing.
use Rattle.std.specs.Prelude.{◌≡◌, ◌∷◌, Bool, true, false, ℕ, ◌<◌, ◌^◌}
use Rattle.terms.specs.Ascii.{Bytes}
use Rattle.scan.specs.Reach.{reach}

-- a test of bytes that may answer as `post` says answers what t does
abbrev pub Answers : (ℕ → Bool → Type 0) → (ℕ → Bool) → Type 0
Answers post t = (b : ℕ) → b < 2 ^ 8 → (r : Bool) → post b r → r ≡ t b

-- any scan that stops at no byte which passes t comes from either place to the same one
abbrev pub GoesOver : (ℕ → Bool) → Bytes → ℕ → ℕ → Type 0
GoesOver t s from to = (test : Bytes → Bool) → ((b : ℕ) (l : Bytes) → t b ≡ true → test (b ∷ l) ≡ false) → reach test s to ≡ reach test s from
