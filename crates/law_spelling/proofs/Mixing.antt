-- Lists that are mixed, in any order or as listed: the same of what is made of their elements. Assumes nothing.
use mathlib.Core.Path.{◌≡◌, refl, sym, ap, ap₂, subst, ◌∙◌}
use mathlib.Core.List.{List, [], ◌∷◌, ◌++◌, map}
use Prim.Native.Nat.{ℕ, suc}
use Rattle.terms.specs.Words.{InTurn, nothing, then}
use Rattle.law.specs.Network.{Mixed, AnyOrder}
use Rattle.law.specs.Network as Law

pub map-append : {A B : Type 0} (f : A → B) (l r : List A) → map f (l ++ r) ≡ map f l ++ map f r
map-append f [] r = refl
map-append f (a ∷ l) r = ap (◌∷◌ (f a)) (map-append f l r)

pub map-map : {A B C : Type 0} (f : A → B) (g : B → C) (l : List A) → map g (map f l) ≡ map (λ a. g (f a)) l
map-map f g [] = refl
map-map f g (a ∷ l) = ap (◌∷◌ (g (f a))) (map-map f g l)

pub map-twice : {A B C D : Type 0} (f : A → B) (g : B → C) (h : C → D) (l : List A) → map h (map g (map f l)) ≡ map (λ a. h (g (f a))) l
map-twice f g h [] = refl
map-twice f g h (a ∷ l) = ap (◌∷◌ (h (g (f a)))) (map-twice f g h l)

pub cons : {A : Type 0} {a b : A} {l m : List A} → a ≡ b → l ≡ m → a ∷ l ≡ b ∷ m
cons e q = λ i. e i ∷ q i

module _ {A B : Type 0} (f : A → B) where
  pub mixed-to : {l r both : List A} → Mixed l r both → Mixed (map f l) (map f r) (map f both)
  mixed-to Law.none = Law.none
  mixed-to (Law.left m) = Law.left (mixed-to m)
  mixed-to (Law.right m) = Law.right (mixed-to m)

  pub mixed-back : (l r : List A) {both : List B} → Mixed (map f l) (map f r) both → (os : List A) × (both ≡ map f os) × Mixed l r os
  mixed-back [] [] Law.none = ([], refl, Law.none)
  mixed-back [] (b ∷ r) (Law.right m) = let x = mixed-back [] r m in (b ∷ x.0, ap (◌∷◌ (f b)) x.1, Law.right x.2)
  mixed-back (a ∷ l) [] (Law.left m) = let x = mixed-back l [] m in (a ∷ x.0, ap (◌∷◌ (f a)) x.1, Law.left x.2)
  mixed-back (a ∷ l) (b ∷ r) (Law.left m) = let x = mixed-back l (b ∷ r) m in (a ∷ x.0, ap (◌∷◌ (f a)) x.1, Law.left x.2)
  mixed-back (a ∷ l) (b ∷ r) (Law.right m) = let x = mixed-back (a ∷ l) r m in (b ∷ x.0, ap (◌∷◌ (f b)) x.1, Law.right x.2)

  pub any-to : (ls : List (List A)) (os : List A) → AnyOrder ls os → AnyOrder (map (map f) ls) (map f os)
  any-to [] os h = ap (map f) h
  any-to (l ∷ ls) os h = (map f h.0, any-to ls h.0 h.1, mixed-to h.2)

  pub any-back : (ls : List (List A)) (l : List B) → AnyOrder (map (map f) ls) l → (os : List A) × (l ≡ map f os) × AnyOrder ls os
  any-back [] l h = ([], h, refl)
  any-back (k ∷ ls) l h =
      let x = any-back ls h.0 h.1 in
      let y = mixed-back k x.0 (subst (λ (rest : List B). Mixed (map f k) rest l) x.1 h.2) in
      (y.0, y.1, (x.0, x.2, y.2))

  -- ## Parts one behind the other
  pub turn-to : {P : Type 0} (Sp : ℕ → P → List A → Type 0) (Law : ℕ → P → List B → Type 0) → ((i : ℕ) (p : P) (u : List A) → Sp i p u → Law i p (map f u)) → (i : ℕ) (ps : List P) (w : List A) → InTurn Sp i ps w → InTurn Law i ps (map f w)
  turn-to Sp Law h i [] w nothing = nothing
  turn-to Sp Law h i (p ∷ ps) w (then {u = u} {v = v} s t) = subst (InTurn Law i (p ∷ ps)) (sym (map-append f u v)) (then (h i p u s) (turn-to Sp Law h (suc i) ps v t))

  pub turn-back : {P : Type 0} (Sp : ℕ → P → List A → Type 0) (Law : ℕ → P → List B → Type 0) → ((i : ℕ) (p : P) (u : List B) → Law i p u → (s : List A) × (u ≡ map f s) × Sp i p s) → (i : ℕ) (ps : List P) (w : List B) → InTurn Law i ps w → (s : List A) × (w ≡ map f s) × InTurn Sp i ps s
  turn-back Sp Law h i [] w nothing = ([], refl, nothing)
  turn-back Sp Law h i (p ∷ ps) w (then {u = u} {v = v} s t) =
      let x = h i p u s in
      let y = turn-back Sp Law h (suc i) ps v t in
      (x.0 ++ y.0, ap₂ (λ (a b : List B). a ++ b) x.1 y.1 ∙ sym (map-append f x.0 y.0), then x.2 y.2)

  -- ## A part: its options, what stands behind them, its end
  pub behind : (os ps : List A) {l r : List B} → map f os ≡ l → map f ps ≡ r → map f (os ++ ps) ≡ l ++ r
  behind os ps x y = map-append f os ps ∙ ap₂ (λ (a b : List B). a ++ b) x y

  pub part_same : (os ps end : List A) {l r : List B} → map f os ≡ l → map f ps ≡ r → map f (os ++ (ps ++ end)) ≡ l ++ (r ++ map f end)
  part_same os ps end x y = behind os (ps ++ end) x (behind ps end y refl)

  pub parts_same : (os ps qs end : List A) {l r s : List B} → map f os ≡ l → map f ps ≡ r → map f qs ≡ s → map f (os ++ (ps ++ (qs ++ end))) ≡ l ++ (r ++ (s ++ map f end))
  parts_same os ps qs end x y z = behind os (ps ++ (qs ++ end)) x (part_same ps qs end y z)
