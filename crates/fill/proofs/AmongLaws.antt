-- Laws of what is among a list, and of the test for it. Assumes nothing.
use mathlib.Core.Path.{◌≡◌, refl, sym, ap, subst, ◌∙◌}
use mathlib.Core.List.{List, [], ◌∷◌, ◌++◌}
use mathlib.Core.Bool.{Bool, true, false}
use mathlib.Core.Logic.{◌⊎◌, inl, inr}
use Prim.Native.Nat.{ℕ, suc, ◌<◌}
use lib.Dec.{T, eqb}
use lib.ListN.{length, take, get_or}
use lib.Seq.{take-suc}
use borrow.Author.Tests.{eqb-true, eq-eqb}
use Rattle.terms.specs.Words.{pick, Each, Among}
use Rattle.fill.specs.FirstFaults.{is_among}

-- ## The test
pub is-among_true : (a : ℕ) (l : List ℕ) → is_among a l ≡ true → Among a l
unfolding is_among
is-among_true a [] h = absurd (subst T (sym h) tt)
is-among_true a (b ∷ l) h = go (eqb a b) refl h (is-among_true a l)
  where
    go : (t : Bool) → eqb a b ≡ t → pick t true (is_among a l) ≡ true → (is_among a l ≡ true → Among a l) → Among a (b ∷ l)
    go true q h ih = inl (eqb-true a b q)
    go false q h ih = inr (ih h)

pub among-is : (a : ℕ) (l : List ℕ) → Among a l → is_among a l ≡ true
unfolding is_among
among-is a [] m = absurd m
among-is a (b ∷ l) (inl e) = rw (eq-eqb a b e)
among-is a (b ∷ l) (inr m) = go (eqb a b) (among-is a l m)
  where
    go : (t : Bool) → is_among a l ≡ true → pick t true (is_among a l) ≡ true
    go true h = refl
    go false h = h

pub is-among_false : (a : ℕ) (l : List ℕ) → is_among a l ≡ false → Among a l → ⊥
is-among_false a l h m = subst T (sym (among-is a l m) ∙ h) tt

pub not-among : (a : ℕ) (l : List ℕ) → (Among a l → ⊥) → is_among a l ≡ false
not-among a l h = go (is_among a l) refl
  where
    go : (t : Bool) → is_among a l ≡ t → is_among a l ≡ false
    go true q = absurd (h (is-among_true a l q))
    go false q = q

-- one more
pub is-among-more : (a : ℕ) (l : List ℕ) (b : ℕ) → is_among a (l ++ (b ∷ [])) ≡ pick (is_among a l) true (eqb a b)
unfolding is_among
is-among-more a [] b = go (eqb a b)
  where
    go : (t : Bool) → pick t true false ≡ t
    go true = refl
    go false = refl
is-among-more a (c ∷ l) b = go (eqb a c) (is-among-more a l b)
  where
    go : (t : Bool) → is_among a (l ++ (b ∷ [])) ≡ pick (is_among a l) true (eqb a b) → pick t true (is_among a (l ++ (b ∷ []))) ≡ pick (pick t true (is_among a l)) true (eqb a b)
    go true h = refl
    go false h = h

-- for a loop: row i is marked
pub is-among-take : (a : ℕ) (l : List ℕ) (i d : ℕ) → i < length l → is_among a (take (suc i) l) ≡ pick (is_among a (take i l)) true (eqb a (get_or l i d))
is-among-take a l i d h = ap (is_among a) (take-suc l i d h) ∙ is-among-more a (take i l) (get_or l i d)

-- ## Among a list, and one more
pub among-front : {A : Type 0} (a : A) (x y : List A) → Among a x → Among a (x ++ y)
among-front a [] y m = absurd m
among-front a (b ∷ x) y (inl e) = inl e
among-front a (b ∷ x) y (inr m) = inr (among-front a x y m)

pub among-last : {A : Type 0} (a b : A) (x : List A) → a ≡ b → Among a (x ++ (b ∷ []))
among-last a b [] e = inl e
among-last a b (c ∷ x) e = inr (among-last a b x e)

pub among-more : {A : Type 0} (a b : A) (x : List A) → Among a (x ++ (b ∷ [])) → Among a x ⊎ (a ≡ b)
among-more a b [] (inl e) = inr e
among-more a b [] (inr m) = absurd m
among-more a b (c ∷ x) (inl e) = inl (inl e)
among-more a b (c ∷ x) (inr m) = go (among-more a b x m)
  where
    go : Among a x ⊎ (a ≡ b) → Among a (c ∷ x) ⊎ (a ≡ b)
    go (inl m) = inl (inr m)
    go (inr e) = inr e

pub each-among : {A : Type 0} (P : A → Type 0) (l : List A) (a : A) → Each P l → Among a l → P a
each-among P [] a e m = absurd m
each-among P (b ∷ l) a e (inl q) = subst P (sym q) e.0
each-among P (b ∷ l) a e (inr m) = each-among P l a e.1 m

pub among-each : {A : Type 0} (P : A → Type 0) (l : List A) → ((a : A) → Among a l → P a) → Each P l
among-each P [] h = tt
among-each P (a ∷ l) h = (h a (inl refl), among-each P l (λ b m. h b (inr m)))
