-- Executable: so many records, each of which begins where the one before it ends; what is known of those passed (a sum, say) goes along. Assumes nothing.
use Rattle.std.specs.Prelude.{◌&&◌}
use Rattle.terms.specs.Words.{Option, none, some, Bool, true, false, ℕ, zero, suc, leb, eqb, Bytes, pick}

-- a row begins at the sum so far, and has not too many
abbrev pub run_fits : (sum begin size : ℕ) → Bool
run_fits sum begin size = eqb begin sum && (leb 1 size && leb size 32768)

-- end: the place behind the record here, or 0 where it is none; next: what is known behind it. Answered is the place behind all, and what is known there
unfoldable pub walk : {S : Type 0} → (end : Bytes → ℕ → S → ℕ) → (next : Bytes → ℕ → S → S) → ℕ → Bytes → ℕ → S → Option (ℕ × S)
walk end next zero b at s = some (at, s)
walk end next (suc k) b at s = pick (eqb (end b at s) 0) none (walk end next k b (end b at s) (next b at s))

-- so many pass a test
unfoldable pub every : {S : Type 0} → (test : Bytes → S → Bool) → (next : Bytes → S → S) → ℕ → Bytes → S → Bool
every test next zero b s = true
every test next (suc k) b s = pick (test b s) (every test next k b (next b s)) false
