-- Whether a step is a move can be decided (`decide`). Assumes nothing.
use mathlib.Core.Path.{◌≡◌, refl, sym, ap, subst, ◌∙◌}
use mathlib.Core.List.{List, [], ◌∷◌}
use mathlib.Core.Logic.{◌⊎◌, inl, inr}
use mathlib.Core.Bool.{Bool, true, false, ◌&&◌, ◌||◌}
use Prim.Native.Nat.{ℕ, suc, ◌+◌}
use native.Mathlib.Omega.{arith}
use lib.Dec.{ltb, eqb}
use lib.ListN.{length}
use borrow.Author.Tests.{ltb-true, ltb-false, eqb-true, eqb-false, eq-eqb}
use Rattle.terms.specs.Words.{Among}
use Rattle.terms.proofs.Tests.{clash, and, or_right}
use Rattle.line.specs.Line.{Field}
use Rattle.law.specs.Network.{Network}
use Rattle.law.specs.Tables.{exit_rows}
use Rattle.route_law.specs.Moves.{Span, Inside, lane_spans, zone_spans, Move, next, exit, across}

abbrev pub Told : Type 0 → Type 0
Told P = P ⊎ (P → ⊥)

both : {P Q : Type 0} → Told P → Told Q → Told (P × Q)
both (inl p) (inl q) = inl (p, q)
both (inl p) (inr q) = inr (λ x. q x.1)
both (inr p) q = inr (λ x. p x.0)

equal : (a b : ℕ) → Told (a ≡ b)
equal a b = go (eqb a b) refl
  where
    go : (s : Bool) → eqb a b ≡ s → Told (a ≡ b)
    go true e = inl (eqb-true a b e)
    go false e = inr (eqb-false a b e)

not-told : {P : Type 0} → Told P → Told (P → ⊥)
not-told (inl p) = inr (λ f. f p)
not-told (inr p) = inl p

inside : (s : Span) (p : ℕ) → Told (Inside s p)
inside s p = go (ltb p s.first) (ltb p (s.first + s.size)) refl refl
  where
    go : (a b : Bool) → ltb p s.first ≡ a → ltb p (s.first + s.size) ≡ b → Told (Inside s p)
    go true b e f = inr (λ w. let x = ltb-true p s.first e in let y = w.from in omega arith)
    go false true e f = inl (let x = ltb-false p s.first e in let y = ltb-true p (s.first + s.size) f in record { from = omega arith; below = omega arith })
    go false false e f = inr (λ w. let x = ltb-false p (s.first + s.size) f in let y = w.below in omega arith)

-- one of a list is so, or none
any : {A : Type 0} (Q : A → Type 0) → ((a : A) → Told (Q a)) → (l : List A) → ((a : A) × Among a l × Q a) ⊎ ((a : A) → Among a l → Q a → ⊥)
any Q d [] = inr (λ a h q. h)
any {A} Q d (x ∷ l) = go (d x) (any Q d l)
  where
    go : Told (Q x) → ((a : A) × Among a l × Q a) ⊎ ((a : A) → Among a l → Q a → ⊥) → ((a : A) × Among a (x ∷ l) × Q a) ⊎ ((a : A) → Among a (x ∷ l) → Q a → ⊥)
    go (inl q) r = inl (x, inl refl, q)
    go (inr q) (inl r) = inl (r.0, inr r.1, r.2)
    go (inr q) (inr r) = inr none
      where
        none : (a : A) → Among a (x ∷ l) → Q a → ⊥
        none a (inl e) h = q (subst Q e h)
        none a (inr i) h = r a i h

-- ## Rows of two words
abbrev pub head : List ℕ → ℕ
head [] = 0
head (a ∷ l) = a

abbrev pub second : List ℕ → ℕ
second [] = 0
second (a ∷ l) = head l

row_is : (a b : ℕ) (r : List ℕ) → Told (a ∷ b ∷ [] ≡ r)
row_is a b [] = inr (λ e. let f : ◌≡◌ {A = ℕ} 2 0 = ap length e in omega arith)
row_is a b (x ∷ []) = inr (λ e. let f : ◌≡◌ {A = ℕ} 2 1 = ap length e in omega arith)
row_is a b (x ∷ y ∷ z ∷ r) = inr (λ e. let f : ◌≡◌ {A = ℕ} 2 (suc (suc (suc (length r)))) = ap length e in omega arith)
row_is a b (x ∷ y ∷ []) = go (equal a x) (equal b y)
  where
    go : Told (a ≡ x) → Told (b ≡ y) → Told (a ∷ b ∷ [] ≡ x ∷ y ∷ [])
    go (inl e) (inl f) = inl (λ i. e i ∷ f i ∷ [])
    go (inl e) (inr f) = inr (λ g. f (ap second g))
    go (inr e) f = inr (λ g. e (ap head g))

row-among : (a b : ℕ) (rows : List (List ℕ)) → Told (Among (a ∷ b ∷ []) rows)
row-among a b [] = inr (λ h. h)
row-among a b (r ∷ rows) = go (row_is a b r) (row-among a b rows)
  where
    go : Told (a ∷ b ∷ [] ≡ r) → Told (Among (a ∷ b ∷ []) rows) → Told (Among (a ∷ b ∷ []) (r ∷ rows))
    go (inl e) s = inl (inl e)
    go (inr e) (inl h) = inl (inr h)
    go (inr e) (inr h) = inr neither
      where
        neither : Among (a ∷ b ∷ []) (r ∷ rows) → ⊥
        neither (inl f) = e f
        neither (inr f) = h f

-- a test of it: where it fails, the row is not among them
abbrev has : (a b : ℕ) → List (List ℕ) → Bool
has a b [] = false
has a b (r ∷ rows) = eqb a (head r) && eqb b (second r) || has a b rows

has-row : (a b : ℕ) (rows : List (List ℕ)) → Among (a ∷ b ∷ []) rows → has a b rows ≡ true
has-row a b [] h = absurd h
has-row a b (r ∷ rows) (inl e) = ap (◌|| has a b rows) (and (eq-eqb a (head r) (ap head e)) (eq-eqb b (second r) (ap second e)))
has-row a b (r ∷ rows) (inr h) = or_right (eqb a (head r) && eqb b (second r)) (has-row a b rows h)

pub absent : (a b : ℕ) (rows : List (List ℕ)) → Among (a ∷ b ∷ []) rows → has a b rows ≡ false → ⊥
absent a b rows h e = clash (sym (has-row a b rows h) ∙ e)

-- ## Moves
-- the rows in which an exit is looked for
abbrev pub ways : Network Field → List (List ℕ)
ways n = exit_rows n

module _ (a b : ℕ) where
  abbrev AsNext : Span → Type 0
  AsNext s = Inside s a × (Inside s b × (b ≡ suc a))

  abbrev Across : Span → Type 0
  Across s = Inside s a × (Inside s b × (a ≡ b → ⊥))

  abbrev OneOf : (Span → Type 0) → List Span → Type 0
  OneOf Q l = ((s : Span) × Among s l × Q s) ⊎ ((s : Span) → Among s l → Q s → ⊥)

  pub decide : (n : Network Field) → Told (Move n a b)
  decide n = go
      (any AsNext (λ s. both (inside s a) (both (inside s b) (equal b (suc a)))) (lane_spans n))
      (row-among a b (ways n))
      (any Across (λ s. both (inside s a) (both (inside s b) (not-told (equal a b)))) (zone_spans n))
    where
      go : OneOf AsNext (lane_spans n) → Told (Among (a ∷ b ∷ []) (ways n)) → OneOf Across (zone_spans n) → Told (Move n a b)
      go (inl x) y z = inl (next x.0 x.1 x.2.0 x.2.1.0 x.2.1.1)
      go (inr x) (inl y) z = inl (exit y)
      go (inr x) (inr y) (inl z) = inl (across z.0 z.1 z.2.0 z.2.1.0 z.2.1.1)
      go (inr x) (inr y) (inr z) = inr none
        where
          none : Move n a b → ⊥
          none (next s i p q e) = x s i (p, (q, e))
          none (exit h) = y h
          none (across s i p q e) = z s i (p, (q, e))
