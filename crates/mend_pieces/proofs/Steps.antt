-- Either side of a test, for the functions here. Assumes nothing.
use mathlib.Core.Path.{◌≡◌, refl}
use mathlib.Core.List.{[], ◌∷◌}
use Prim.Native.Nat.{ℕ, zero, suc, ◌+◌, ◌≤◌, ◌<◌}
use native.Mathlib.Omega.{arith}
use lib.ListN.{length, drop}
use borrow.Author.Tests.{lt-ltb, le-ltb}
use Rattle.terms.specs.Words.{Bytes}
use Rattle.mend_pieces.specs.Pieces.{lf_from, stop_of}

pub stop-inside : (s : Bytes) (from e : ℕ) → e ≡ lf_from s from → e < length s → e + 1 ≡ stop_of s from
unfolding stop_of
stop-inside s from e q h = rw (← q, lt-ltb e (length s) h) refl

pub stop-outside : (s : Bytes) (from e : ℕ) → e ≡ lf_from s from → length s ≤ e → e ≡ stop_of s from
unfolding stop_of
stop-outside s from e q h = rw (← q, le-ltb e (length s) h) refl

-- nothing stands behind the end
pub drop_past : (n : ℕ) (l : Bytes) → length l ≤ n → drop n l ≡ []
drop_past zero [] h = refl
drop_past (suc n) [] h = refl
drop_past zero (b ∷ l) h = absurd (omega arith)
drop_past (suc n) (b ∷ l) h = drop_past n l (omega arith)
