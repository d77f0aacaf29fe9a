-- The i-th thing of a list, and where its rows stand. Assumes nothing.
use mathlib.Core.Path.{◌≡◌, refl, ap, subst, ◌∙◌}
use mathlib.Core.List.{List, [], ◌∷◌, ◌++◌, map, head-eq_of_cons-eq, tail-eq_of_cons-eq}
use Prim.Native.Nat.{ℕ, suc, pred, ◌+◌, ◌≤◌, ◌<◌}
use native.Mathlib.Omega.{arith}
use lib.ListN.{length, get_or}
use Rattle.grammar.specs.Tables.{gather, along}
use Rattle.grammar.specs.References.{Nth, first, later}
use Rattle.grammar.proofs.Rows.{total}

-- how many rows the things before it take
unfoldable pub before : {A : Type 0} (size : A → ℕ) {i : ℕ} {a : A} {l : List A} → Nth i a l → ℕ
before size first = 0
before size (later {b = b} t) = size b + before size t

pub one_up : {A : Type 0} {i : ℕ} {a : A} {l : List A} → Nth i a l → i ≡ suc (pred i)
one_up first = refl
one_up (later t) = refl

pub nth_le : {A : Type 0} {i : ℕ} {a : A} {l : List A} → Nth i a l → i ≤ length l
nth_le first = omega arith
nth_le (later t) = let h = nth_le t in omega arith

pub before-within : {A : Type 0} (size : A → ℕ) {i : ℕ} {a : A} {l : List A} (t : Nth i a l) → before size t + size a ≤ total size l
unfolding before
before-within size first = omega arith
before-within size (later t) = let h = before-within size t in omega arith

-- of lists with the same sizes: a row in the range of a thing tells which thing, and which of its rows
pub same_place : {A : Type 0} (size : A → ℕ) {i j : ℕ} {a b : A} {l l' : List A} (t : Nth i a l) (u : Nth j b l') (p q : ℕ) → p < size a → q < size b → map size l ≡ map size l'
    → before size t + p ≡ before size u + q → (i ≡ j) × (p ≡ q)
unfolding before
same_place size first first p q hp hq n e = (refl, omega arith)
same_place size first (later u) p q hp hq n e = let h = head-eq_of_cons-eq n in absurd (omega arith)
same_place size (later t) first p q hp hq n e = let h = head-eq_of_cons-eq n in absurd (omega arith)
same_place size (later t) (later u) p q hp hq n e = let h = head-eq_of_cons-eq n in let r = same_place size t u p q hp hq (tail-eq_of_cons-eq n) (omega arith) in (ap suc r.0, r.1)

pub nth-along : {A R : Type 0} (size : A → ℕ) (row : ℕ → A → R) (d : R) (start : ℕ) {i : ℕ} {a : A} {l : List A} (t : Nth i a l)
    → get_or (along size (λ first a. row first a ∷ []) start l) (pred i) d ≡ row (start + before size t) a
unfolding before
nth-along size row d start (first {a = a}) = ap (λ (k : ℕ). row k a) (omega arith)
nth-along {A} {R} size row d start (later {i = i} {a = a} {b = b} {l = l} t) =
    ap (λ (j : ℕ). get_or (row start b ∷ along size (λ first a. row first a ∷ []) (start + size b) l) j d) (one_up t)
    ∙ nth-along size row d (start + size b) t ∙ ap (λ (k : ℕ). row k a) (omega arith)

nth-front : {A : Type 0} (x : List A) {j : ℕ} {a : A} {y : List A} → Nth j a y → Nth (length x + j) a (x ++ y)
nth-front [] {j} {a} {y} t = subst (λ (k : ℕ). Nth k a y) (omega arith) t
nth-front (b ∷ x) {j} {a} {y} t = subst (λ (k : ℕ). Nth k a (b ∷ (x ++ y))) (omega arith) (later {b = b} (nth-front x t))

nth-back : {A : Type 0} {j : ℕ} {a : A} {x : List A} (y : List A) → Nth j a x → Nth j a (x ++ y)
nth-back y first = first
nth-back y (later t) = later (nth-back y t)

pub nth-gather : {A B : Type 0} (f : A → List B) {i j : ℕ} {a : A} {b : B} {l : List A} (t : Nth i a l) → Nth j b (f a) → Nth (before (λ a. length (f a)) t + j) b (gather f l)
unfolding before
nth-gather f {i} {j} {a} {b} {l} (first {l = r}) u = subst (λ (k : ℕ). Nth k b (f a ++ gather f r)) (omega arith) (nth-back (gather f r) u)
nth-gather f {i} {j} {a} {b} {l} (later {b = c} {l = r} t) u = subst (λ (k : ℕ). Nth k b (f c ++ gather f r)) (omega arith) (nth-front (f c) (nth-gather f t u))
