-- The exits of the parts stand one behind the other: those before a part's own leave earlier points, those behind leave later ones. Assumes nothing.
use mathlib.Core.Path.{◌≡◌, refl, sym, ap, subst, ◌∙◌}
use mathlib.Core.Logic.{◌⊎◌, inl, inr}
use mathlib.Core.List.{List, [], ◌∷◌, ◌++◌, append_assoc}
use Prim.Native.Nat.{ℕ, ◌+◌, ◌≤◌, ◌<◌}
use native.Mathlib.Omega.{arith}
use Rattle.terms.specs.Words.{Each, Among}
use Rattle.terms.proofs.Lists.{each_map, each_append}
use Rattle.law.specs.Along.{along}
use Rattle.grammar.proofs.Rows.{total, Within, Own, along-own}
use Rattle.route_law.specs.Moves.{Span}
use Rattle.move_tables.proofs.Spans.{spans}

-- b is one of a part's own, which stand together in the list
pub record Grouped {B : Type 0} (key : B → ℕ) (parts : List Span) (l : List B) (b : B) : Type 0 where
  pub span : Span
  pub part : Among span parts
  pub front : List B
  pub own : List B
  pub back : List B
  pub is : l ≡ front ++ (own ++ back)
  pub before : Each (λ x. key x < span.first) front
  pub within : Each (λ x. Within span.first span.size (key x)) own
  pub behind : Each (λ x. span.first + span.size ≤ key x) back
  pub there : Among b own

pub either-part : {B : Type 0} (b : B) (x y : List B) → Among b (x ++ y) → Among b x ⊎ Among b y
either-part b [] y h = inr h
either-part b (a ∷ x) y (inl e) = inl (inl e)
either-part b (a ∷ x) y (inr h) = go (either-part b x y h)
  where
    go : Among b x ⊎ Among b y → Among b (a ∷ x) ⊎ Among b y
    go (inl h) = inl (inr h)
    go (inr h) = inr h

module _ {A : Type 0} (size : A → ℕ) where
  -- no part begins before the first or ends behind the last
  pub spans-from : (p : ℕ) (l : List A) → Each (λ s. (p ≤ s.first) × (s.first + s.size ≤ p + total size l)) (spans size p l)
  spans-from p [] = tt
  spans-from p (a ∷ l) = ((omega arith, omega arith), each_map (λ s. (p + size a ≤ s.first) × (s.first + s.size ≤ p + size a + total size l)) (λ s. (p ≤ s.first) × (s.first + s.size ≤ p + (size a + total size l))) (λ s h. let x = h.0 in let y = h.1 in (omega arith, omega arith)) (spans size (p + size a) l) (spans-from (p + size a) l))

pub of-each : {A : Type 0} (P : A → Type 0) (a : A) (l : List A) → Each P l → Among a l → P a
of-each P a [] e h = absurd h
of-each P a (b ∷ l) e (inl q) = subst P (sym q) e.0
of-each P a (b ∷ l) e (inr h) = of-each P a l e.1 h

module _ {A B : Type 0} (size : A → ℕ) (key : B → ℕ) (f : ℕ → A → List B) where
  pub grouped : (p : ℕ) (l : List A) → Each (Own size key f) l → (b : B) → Among b (along size f p l) → Grouped key (spans size p l) (along size f p l) b
  grouped p [] o b h = absurd h
  grouped p (a ∷ l) o b h = go (either-part b (f p a) (along size f (p + size a) l) h) (grouped (p + size a) l o.1 b)
    where
      go : Among b (f p a) ⊎ Among b (along size f (p + size a) l) → (Among b (along size f (p + size a) l) → Grouped key (spans size (p + size a) l) (along size f (p + size a) l) b) → Grouped key (spans size p (a ∷ l)) (along size f p (a ∷ l)) b
      go (inl h) rest = record {
        span = record { first = p; size = size a };
        part = inl refl;
        front = [];
        own = f p a;
        back = along size f (p + size a) l;
        is = refl;
        before = tt;
        within = o.0 p;
        behind = each_map (λ x. Within (p + size a) (total size l) (key x)) (λ x. p + size a ≤ key x) (λ x w. w.low) (along size f (p + size a) l) (along-own size key f (p + size a) l o.1);
        there = h;
      }
      go (inr h) rest =
          let g = rest h in
          let at = (of-each (λ s. (p + size a ≤ s.first) × (s.first + s.size ≤ p + size a + total size l)) g.span (spans size (p + size a) l) (spans-from size (p + size a) l) g.part).0 in
          record {
            span = g.span;
            part = inr g.part;
            front = f p a ++ g.front;
            own = g.own;
            back = g.back;
            is = ap (◌++◌ (f p a)) g.is ∙ sym (append_assoc (f p a) g.front (g.own ++ g.back));
            before = each_append (λ x. key x < g.span.first) (f p a) g.front (each_map (λ x. Within p (size a) (key x)) (λ x. key x < g.span.first) (λ x w. let k = w.high in omega arith) (f p a) (o.0 p)) g.before;
            within = g.within;
            behind = g.behind;
            there = g.there;
          }
