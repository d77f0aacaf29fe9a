-- The first value of a line with which no permitted values go on. Over values alone: no line, no place. Assumes nothing.
use mathlib.Core.Path.{◌≡◌, refl, sym, ap, subst, ◌∙◌}
use mathlib.Core.List.{List, [], ◌∷◌, ◌++◌}
use mathlib.Core.Option.{Option, none, some}
use mathlib.Core.Bool.{Bool, true, false}
use Prim.Native.Nat.{ℕ, suc}
use native.Mathlib.Omega.{arith}
use lib.ListN.{length}
use lib.Dec.{T}
use Rattle.terms.specs.Words.{pick}
use Rattle.line.specs.Content.{Field}
use Rattle.text.specs.Judge.{Sort, Val, read, Vals}
use Rattle.law_columns.specs.Finding.{on_read, wrong_at, start_of}

-- the fields spell the first of these values
abbrev pub Spelled : (ss : List Sort) → List Field → Vals ss → Type 0
Spelled ss [] u = Unit {0}
Spelled [] (f ∷ fs) u = ⊥
Spelled (s ∷ ss) (f ∷ fs) u = (read s f ≡ some u.0) × Spelled ss fs u.1

-- the i-th field, from 0, is the first with which no good values go on
pub record Wrong (ss : List Sort) (Good : Vals ss → Type 0) (fs : List Field) (i : ℕ) : Type 0 where
  pub before : List Field
  pub f : Field
  pub behind : List Field
  pub among : fs ≡ before ++ (f ∷ behind)
  pub at : length before ≡ i
  pub u : Vals ss
  pub good : Good u
  pub right : Spelled ss before u
  pub wrong : (u : Vals ss) → Good u → Spelled ss (before ++ (f ∷ [])) u → ⊥

-- where it starts
pub started : (before : List Field) (f : Field) (behind : List Field) → start_of (length before) (before ++ (f ∷ behind)) ≡ f.start
started [] f behind = refl
started (g ∷ before) f behind = started before f behind

one_value : {A : Type 0} {o : Option A} {a b : A} → o ≡ some a → o ≡ some b → a ≡ b
one_value {o = o} {a = a} {b = b} e f = let h : some a ≡ some b = sym e ∙ f in cc

-- what is permitted stays so with low values from any place on
abbrev pub Completes : (ss : List Sort) → (Vals ss → Bool) → Vals ss → Type 0
Completes [] test low = Unit {0}
Completes (s ∷ ss) test low = ((u : Vals (s ∷ ss)) → T (test u) → T (test (u.0, low.1))) × ((v : Val s) → Completes ss (λ u. test (v, u)) low.1)

-- the first of two or more: wrong, or the wrong one is behind it
module _ (s z : Sort) (ss : List Sort) (test : Vals (s ∷ z ∷ ss) → Bool) (w low u₀ : Vals (s ∷ z ∷ ss)) (t : T (test u₀)) (c : Completes (s ∷ z ∷ ss) test low) (f : Field) (fs : List Field) (h : read s f ≡ some w.0) where
  abbrev later : ℕ
  later = wrong_at (z ∷ ss) (λ u. test (w.0, u)) low.1 fs

  first-or-later : (x : Bool) → test (w.0, low.1) ≡ x → (T (test (w.0, low.1)) → Wrong (z ∷ ss) (λ u. T (test (w.0, u))) fs later) → Wrong (s ∷ z ∷ ss) (λ u. T (test u)) (f ∷ fs) (pick x (suc later) 0)
  first-or-later true q ih =
      let r = ih (rw q tt) in
      record {
        before = f ∷ r.before;
        f = r.f;
        behind = r.behind;
        among = ap (◌∷◌ f) r.among;
        at = ap suc r.at;
        u = (w.0, r.u);
        good = r.good;
        right = (h, r.right);
        wrong = λ u g k. r.wrong u.1 (subst (λ (v : Val s). T (test (v, u.1))) (one_value k.0 h) g) k.1;
      }
  first-or-later false q ih = record {
    before = [];
    f = f;
    behind = fs;
    among = refl;
    at = refl;
    u = u₀;
    good = t;
    right = tt;
    wrong = λ u g k.
        let y : T (test (w.0, low.1)) = subst (λ (v : Val s). T (test (v, low.1))) (one_value k.0 h) (c.0 u g) in
        subst T q y;
  }

  found-so : wrong_at (s ∷ z ∷ ss) test low (f ∷ fs) ≡ pick (test (w.0, low.1)) (suc later) 0
  unfolding wrong_at
  found-so = ap (λ (o : Option (Val s)). on_read o (λ v. pick (test (v, low.1)) (suc (wrong_at (z ∷ ss) (λ u. test (v, u)) low.1 fs)) 0)) h

  first-wrong : (T (test (w.0, low.1)) → Wrong (z ∷ ss) (λ u. T (test (w.0, u))) fs later) → Wrong (s ∷ z ∷ ss) (λ u. T (test u)) (f ∷ fs) (wrong_at (s ∷ z ∷ ss) test low (f ∷ fs))
  first-wrong ih = subst (Wrong (s ∷ z ∷ ss) (λ u. T (test u)) (f ∷ fs)) (sym found-so) (first-or-later (test (w.0, low.1)) refl ih)

-- the only one
only-wrong : (s : Sort) (test : Vals (s ∷ []) → Bool) (w u₀ : Vals (s ∷ [])) → T (test u₀) → (T (test w) → ⊥) → (f : Field) (fs : List Field) → read s f ≡ some w.0 → Wrong (s ∷ []) (λ u. T (test u)) (f ∷ fs) 0
only-wrong s test w u₀ t n f fs h = record {
  before = [];
  f = f;
  behind = fs;
  among = refl;
  at = refl;
  u = u₀;
  good = t;
  right = tt;
  wrong = λ u g r. n (subst (λ (v : Val s). T (test (v, tt))) (one_value r.0 h) g);
}

one_at : (s : Sort) (test : Vals (s ∷ []) → Bool) (low : Vals (s ∷ [])) (fs : List Field) → wrong_at (s ∷ []) test low fs ≡ 0
unfolding wrong_at
one_at s test low fs = refl

pub forbidden-wrong : (ss : List Sort) (test : Vals ss → Bool) (w low u₀ : Vals ss) → T (test u₀) → Completes ss test low → (T (test w) → ⊥) → (fs : List Field) → Spelled ss fs w → length fs ≡ length ss → Wrong ss (λ u. T (test u)) fs (wrong_at ss test low fs)
forbidden-wrong [] test w low u₀ t c n fs h m = absurd (n t)
forbidden-wrong (s ∷ []) test w low u₀ t c n [] h m = absurd (omega arith)
forbidden-wrong (s ∷ []) test w low u₀ t c n (f ∷ fs) h m = subst (Wrong (s ∷ []) (λ u. T (test u)) (f ∷ fs)) (sym (one_at s test low (f ∷ fs))) (only-wrong s test w u₀ t n f fs h.0)
forbidden-wrong (s ∷ z ∷ ss) test w low u₀ t c n [] h m = absurd (omega arith)
forbidden-wrong (s ∷ z ∷ ss) test w low u₀ t c n (f ∷ fs) h m = first-wrong s z ss test w low u₀ t c f fs h.0 (λ y. forbidden-wrong (z ∷ ss) (λ u. test (w.0, u)) w.1 low.1 low.1 y (c.1 w.0) n fs h.1 (omega arith))
