-- Of every network, start and list of goals' points: the mission can be driven or one refusal holds (`some-answer`). Assumes nothing.
use mathlib.Core.Path.{◌≡◌, ap}
use mathlib.Core.List.{List, [], ◌∷◌}
use mathlib.Core.Logic.{◌⊎◌, inl, inr}
use Prim.Native.Nat.{ℕ, suc, ◌+◌, ◌≤◌, ◌<◌}
use native.Mathlib.Omega.{arith}
use Rattle.terms.specs.Words.{Among}
use Rattle.line.specs.Line.{Field}
use Rattle.law.specs.Network.{Network}
use Rattle.law.specs.Tables.{total, exit_rows}
use Rattle.route_law.specs.Moves.{Span, lane_spans, zone_spans, Move, next, exit, across, points_declared}
use Rattle.route_law.proofs.Decided.{head, decide}
use Rattle.reach_law.specs.Reach.{DriveTaken, DriveFault}
use Rattle.reach_law.proofs.Chains.{told-chain, told-onward}
use Rattle.reach_law.proofs.Settled as Settled

within-total : {A : Type 0} (f : A → ℕ) (a : A) (l : List A) → Among a l → f a ≤ total f l
within-total f a [] h = absurd h
within-total f a (x ∷ l) (inl e) = let g : f a ≡ f x = ap f e in omega arith
within-total f a (x ∷ l) (inr h) = let g = within-total f a l h in omega arith

abbrev end : Span → ℕ
end s = s.first + s.size

-- moves leave only points below this
abbrev bound : Network Field → ℕ
bound n = suc (total end (lane_spans n) + total end (zone_spans n) + total head (exit_rows n))

below : (n : Network Field) (a b : ℕ) → Move n a b → a < bound n
below n a b (next s i p q e) = let h = within-total end s (lane_spans n) i in let k = p.below in omega arith
below n a b (exit i) = let h = within-total head (a ∷ b ∷ []) (exit_rows n) i in omega arith
below n a b (across s i p q e) = let h = within-total end s (zone_spans n) i in let k = p.below in omega arith

pub some-answer : (n : Network Field) (rows start : ℕ) (goals : List ℕ) → DriveTaken (Move n) (points_declared n) rows start goals ⊎ ((line : ℕ) × (number : ℕ) × DriveFault (Move n) (points_declared n) rows start goals line number)
some-answer n rows start goals = Settled.some-answer (Move n) (points_declared n) rows start goals (told-chain (Move n) (λ a b. decide a b n) (bound n) (below n)) (told-onward (Move n) (λ a b. decide a b n) (bound n) (below n))
