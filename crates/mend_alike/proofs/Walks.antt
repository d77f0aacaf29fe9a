-- THE LAW of a step of the walk: from memories that differ in where names start alone, a line that starts at two places ends both walks alike. Assumes nothing.
use mathlib.Core.Path.{◌≡◌, refl, sym, ap, subst, ◌∙◌}
use mathlib.Core.List.{[], ◌∷◌}
use Prim.Native.Nat.{ℕ, suc}
use native.Mathlib.Omega.{arith}
use Rattle.terms.specs.Words.{Bytes}
use Rattle.grammar.specs.Editions.{Edition}
use Rattle.statement.specs.declared.Statement.{Statement}
use Rattle.place.specs.declared.Place.{Place}
use Rattle.judge.specs.Judging.{Got, bad, blank, said, line}
use Rattle.walk.specs.Standing.{Where, place}
use Rattle.edition_judge.specs.EditionLine.{judging_in}
use Rattle.network.specs.Storing.{Memory}
use Rattle.network.specs.Reading.{put}
use Rattle.network.specs.Reaching.{WalkEnd, stopped, reached, goes, reaching}
use Rattle.mend_alike.specs.Plain.{plain_said}
use Rattle.mend_alike.proofs.Lines.{line-alike}
use Rattle.mend_alike.proofs.Stored.{Alike, put-alike}

-- the same fault on the same line; or the same place behind as many lines, and memories that are alike
pub data EndAlike : WalkEnd → WalkEnd → Type 0 where
  stops : {i n : ℕ} → EndAlike (stopped i n) (stopped i n)
  ends : {p : Place} {m d : Memory} {i : ℕ} → Alike m d → EndAlike (reached p m i) (reached p d i)

-- ## What a line gets
got-kind : Got Statement Place → ℕ
got-kind (bad n) = 0
got-kind blank = 1
got-kind (said s q) = 2

got_number : Got Statement Place → ℕ
got_number (bad n) = n
got_number blank = 0
got_number (said s q) = 0

got-statement : Statement → Got Statement Place → Statement
got-statement t (bad n) = t
got-statement t blank = t
got-statement t (said s q) = s

got-place : Place → Got Statement Place → Place
got-place p (bad n) = p
got-place p blank = p
got-place p (said s q) = q

-- behind what two lines got that is alike; v, w: where they stand, with one number
goes-alike : (p : Place) (m d : Memory) (v w : Where) (i : ℕ) → v.line ≡ i → w.line ≡ i → (g h : Got Statement Place) → plain_said g ≡ plain_said h → Alike m d
    → EndAlike (goes v p m g (λ q x. reached q x (suc i))) (goes w p d h (λ q x. reached q x (suc i)))
unfolding got-kind got_number got-statement got-place
goes-alike p m d v w i a b (bad n) (bad k) e h = subst (λ (x : WalkEnd). EndAlike (stopped v.line n) x) (λ j. stopped ((a ∙ sym b) j) (ap got_number e j)) stops
goes-alike p m d v w i a b (bad n) blank e h = absurd (let z : ◌≡◌ {A = ℕ} 0 1 = ap got-kind e in omega arith)
goes-alike p m d v w i a b (bad n) (said t r) e h = absurd (let z : ◌≡◌ {A = ℕ} 0 2 = ap got-kind e in omega arith)
goes-alike p m d v w i a b blank (bad k) e h = absurd (let z : ◌≡◌ {A = ℕ} 1 0 = ap got-kind e in omega arith)
goes-alike p m d v w i a b blank blank e h = ends h
goes-alike p m d v w i a b blank (said t r) e h = absurd (let z : ◌≡◌ {A = ℕ} 1 2 = ap got-kind e in omega arith)
goes-alike p m d v w i a b (said s q) (bad k) e h = absurd (let z : ◌≡◌ {A = ℕ} 2 0 = ap got-kind e in omega arith)
goes-alike p m d v w i a b (said s q) blank e h = absurd (let z : ◌≡◌ {A = ℕ} 2 1 = ap got-kind e in omega arith)
goes-alike p m d v w i a b (said s q) (said t r) e h = subst (λ (x : Place). EndAlike (reached q (put v s m) (suc i)) (reached x (put w t d) (suc i))) (ap (got-place q) e) (ends (put-alike v w s t m d (ap (got-statement s) e) h))

pub one_alike : (e : Edition) (l : Bytes) (a b : ℕ) (p : Place) (m d : Memory) (i : ℕ) → Alike m d → EndAlike (reaching e p m a i (l ∷ [])) (reaching e p d b i (l ∷ []))
unfolding reaching
one_alike e l a b p m d i h = goes-alike p m d (place a i l) (place b i l) i refl refl (line (judging_in e) l a p) (line (judging_in e) l b p) (line-alike e l a b p) h
