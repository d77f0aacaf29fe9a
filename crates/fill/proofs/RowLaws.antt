-- Laws of rows in file order that `grammar` lacks: rows behind rows, rows mapped, rows counted. Assumes nothing.
use mathlib.Core.Path.{◌≡◌, refl, sym, ap, ap₂, ◌∙◌}
use mathlib.Core.List.{List, [], ◌∷◌, ◌++◌, map, map-append, append_assoc}
use Prim.Native.Nat.{ℕ, suc, ◌+◌, ◌*◌}
use native.Mathlib.Omega.{arith}
use native.Mathlib.Nat.{mul-suc}
use lib.ListN.{length, length-append}
use Rattle.terms.specs.Words.{Each}
use Rattle.grammar.specs.Tables.{gather, along}
use Rattle.grammar.proofs.Rows.{total}

-- ## Rows behind rows
pub gather_append : {A B : Type 0} (g : A → List B) (x y : List A) → gather g (x ++ y) ≡ gather g x ++ gather g y
gather_append g [] y = refl
gather_append g (a ∷ x) y = ap (◌++◌ (g a)) (gather_append g x y) ∙ sym (append_assoc (g a) (gather g x) (gather g y))

pub along_append : {A B C : Type 0} (g : A → List B) (f : ℕ → A → List C) (p : ℕ) (x y : List A)
    → along (λ a. length (g a)) f p (x ++ y) ≡ along (λ a. length (g a)) f p x ++ along (λ a. length (g a)) f (p + length (gather g x)) y
along_append g f p [] y = ap (λ (q : ℕ). along (λ a. length (g a)) f q y) (let e : p ≡ p + 0 = omega arith in e)
along_append g f p (a ∷ x) y =
    let q = length-append (g a) (gather g x) in
    let e : (p + length (g a)) + length (gather g x) ≡ p + length (gather g (a ∷ x)) = omega arith in
    ap (◌++◌ (f p a)) (along_append g f (p + length (g a)) x y ∙ ap (λ (q : ℕ). along (λ a. length (g a)) f (p + length (g a)) x ++ along (λ a. length (g a)) f q y) e)
    ∙ sym (append_assoc (f p a) (along (λ a. length (g a)) f (p + length (g a)) x) (along (λ a. length (g a)) f (p + length (gather g (a ∷ x))) y))

pub gather-gather : {A B C : Type 0} (f : A → List B) (g : B → List C) (l : List A) → gather (λ a. gather g (f a)) l ≡ gather g (gather f l)
gather-gather f g [] = refl
gather-gather f g (a ∷ l) = ap (◌++◌ (gather g (f a))) (gather-gather f g l) ∙ sym (gather_append g (f a) (gather f l))

-- ## Each, and map
pub each-by_map : {A B : Type 0} (P : B → Type 0) (g : A → B) (l : List A) → Each P (map g l) → Each (λ a. P (g a)) l
each-by_map P g [] e = tt
each-by_map P g (a ∷ l) e = (e.0, each-by_map P g l e.1)

pub map_each : {A B : Type 0} (f g : A → B) (l : List A) → Each (λ a. f a ≡ g a) l → map f l ≡ map g l
map_each f g [] e = refl
map_each {B = B} f g (a ∷ l) e = ap₂ (λ (x : B) (y : List B). x ∷ y) e.0 (map_each f g l e.1)

-- ## Rows mapped
pub map-gather : {A B C : Type 0} (g : B → C) (h : A → List B) (l : List A) → map g (gather h l) ≡ gather (λ a. map g (h a)) l
map-gather g h [] = refl
map-gather g h (a ∷ l) = map-append g (h a) (gather h l) ∙ ap (◌++◌ (map g (h a))) (map-gather g h l)

-- things told in another way, each with the same rows, have the same rows together
pub gather-moved : {A A' B : Type 0} (g : A → A') (F : A → List B) (F' : A' → List B) → ((a : A) → F' (g a) ≡ F a) → (l : List A) → gather F' (map g l) ≡ gather F l
gather-moved g F F' e [] = refl
gather-moved {B = B} g F F' e (a ∷ l) = ap₂ (λ (x y : List B). x ++ y) (e a) (gather-moved g F F' e l)

-- what g tells of the rows of each thing, it tells of all the rows
pub map-along : {A B C : Type 0} (g : B → C) (size : A → ℕ) (f : ℕ → A → List B) (h : ℕ → A → List C) → ((p : ℕ) (a : A) → map g (f p a) ≡ h p a) → (p : ℕ) (l : List A) → map g (along size f p l) ≡ along size h p l
map-along g size f h e p [] = refl
map-along {C = C} g size f h e p (a ∷ l) = map-append g (f p a) (along size f (p + size a) l) ∙ ap₂ (λ (x y : List C). x ++ y) (e p a) (map-along g size f h e (p + size a) l)

-- where that does not depend on the place
pub along-gather : {A B C : Type 0} (g : B → C) (size : A → ℕ) (f : ℕ → A → List B) (h : A → List C) → ((p : ℕ) (a : A) → map g (f p a) ≡ h a) → (p : ℕ) (l : List A) → map g (along size f p l) ≡ gather h l
along-gather g size f h e p [] = refl
along-gather {C = C} g size f h e p (a ∷ l) = map-append g (f p a) (along size f (p + size a) l) ∙ ap₂ (λ (x y : List C). x ++ y) (e p a) (along-gather g size f h e (p + size a) l)

-- ## Rows counted
pub total-each : {A : Type 0} (c : ℕ) (l : List A) → total (λ a. c) l ≡ c * length l
total-each c [] = omega arith
total-each c (a ∷ l) = let h = total-each c l in rw (mul-suc c (length l)) (omega arith)

-- so many rows for each thing
pub length-along : {A B : Type 0} (size g : A → ℕ) (f : ℕ → A → List B) → ((p : ℕ) (a : A) → length (f p a) ≡ g a) → (p : ℕ) (l : List A) → length (along size f p l) ≡ total g l
length-along size g f e p [] = refl
length-along size g f e p (a ∷ l) = length-append (f p a) (along size f (p + size a) l) ∙ ap₂ (λ (x y : ℕ). x + y) (e p a) (length-along size g f e (p + size a) l)

-- one row for each
pub one_each : {A B : Type 0} (size : A → ℕ) (row : ℕ → A → B) (p : ℕ) (l : List A) → length (along size (λ first a. row first a ∷ []) p l) ≡ length l
one_each size row p [] = refl
one_each size row p (a ∷ l) = ap suc (one_each size row (p + size a) l)
