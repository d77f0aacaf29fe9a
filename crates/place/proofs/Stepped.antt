-- What a place makes of a statement whose kind may stand there, told by the two parts of a step. Assumes nothing.
use mathlib.Core.Path.{◌≡◌, refl, sym, ap, ◌∙◌}
use mathlib.Core.Bool.{Bool, true, false}
use Prim.Native.Nat.{ℕ, ◌-◌}
use native.Mathlib.Omega.{arith}
use lib.Dec.{eqb, ltb}
use Rattle.terms.specs.Words.{pick}
use Rattle.statement.specs.declared.Statement.{Statement}
use Rattle.place.specs.declared.Place.{Place}
use Rattle.place.specs.Step.{has_of, permits_of, ready_of, after_of, opted_of, due_of, option_of, by_cell, refuses_by, tested_of, moved_of, Outcome, Next, Refused}

-- the next place, or the number
abbrev pub outcome : ℕ → Place → Outcome
outcome n q = pick (eqb n 0) (Next q) (Refused n)

module _ (p : Place) (s : Statement) (c : ℕ) where
  due : (fine ready : Bool) → pick fine (pick ready (Next (after_of p s c)) (Refused 25)) (Refused 9) ≡ outcome (pick fine (pick ready 0 25) 9) (after_of p s c)
  due true true = refl
  due true false = refl
  due false ready = refl

  option : (has fine : Bool) → ◌≡◌ {A = ℕ} (pick has 6 0) 0 → pick has (Refused 6) (pick fine (Next (opted_of p (c - 128))) (Refused 9)) ≡ outcome (pick fine 0 9) (opted_of p (c - 128))
  option true fine h = absurd (omega (arith, h))
  option false true h = refl
  option false false h = refl

  -- THE STEP
  pub stepped : refuses_by p.given c ≡ 0 → by_cell p s c ≡ outcome (tested_of p s c) (moved_of p s c)
  unfolding refuses_by by_cell due_of option_of tested_of moved_of
  stepped h = go (ltb c 128) (ltb c 255) h
    where
      go : (b d : Bool) → ◌≡◌ {A = ℕ} (pick b 0 (pick d (pick (has_of p.given (c - 128)) 6 0) 5)) 0
          → pick b (due_of p s c) (pick d (option_of p s (c - 128)) (Refused 5)) ≡ outcome (pick (permits_of p s) (pick b (pick (ready_of p) 0 25) 0) 9) (pick b (after_of p s c) (opted_of p (c - 128)))
      go true d h = due (permits_of p s) (ready_of p)
      go false true h = option (has_of p.given (c - 128)) (permits_of p s) h
      go false false h = absurd (omega (arith, h))
