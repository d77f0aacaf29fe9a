-- 18 by a count: where no limit is at fault, no id is missing exactly where there are as many limits as segments and zones. Assumes nothing.
use mathlib.Core.Path.{◌≡◌, refl, sym, ap, subst, ◌∙◌}
use mathlib.Core.List.{List, [], ◌∷◌}
use mathlib.Core.Bool.{Bool, true, false}
use mathlib.Core.Logic.{inl, inr}
use Prim.Native.Nat.{ℕ, zero, suc, ◌≤◌}
use native.Mathlib.Omega.{arith}
use lib.Dec.{eqb}
use lib.ListN.{length}
use borrow.Author.Tests.{eqb-true, eqb-false}
use Rattle.terms.specs.Words.{pick, Each, Among, Between}
use Rattle.terms.proofs.Lists.{each_map}
use Rattle.grammar.specs.References.{Different}
use Rattle.fill.specs.Faults.{SomeMissing}
use Rattle.fill.specs.FirstFaults.{some_missing}
use Rattle.fill.proofs.AmongLaws.{each-among, among-each}
use Rattle.fill.proofs.MissionLaws.{none-missing, missing-right}

-- ## Different numbers that are all among others are not more than those
-- one taken out
abbrev without : ℕ → List ℕ → List ℕ
without a [] = []
without a (b ∷ l) = pick (eqb a b) l (b ∷ without a l)

length_without : (a : ℕ) (l : List ℕ) → Among a l → length l ≡ suc (length (without a l))
length_without a [] m = absurd m
length_without a (b ∷ l) m = go (eqb a b) refl m (length_without a l)
  where
    go : (t : Bool) → eqb a b ≡ t → Among a (b ∷ l) → (Among a l → length l ≡ suc (length (without a l))) → suc (length l) ≡ suc (length (pick t l (b ∷ without a l)))
    go true q m h = refl
    go false q (inl e) h = absurd (eqb-false a b q e)
    go false q (inr m) h = ap suc (h m)

among-without : (a b : ℕ) (l : List ℕ) → (b ≡ a → ⊥) → Among b l → Among b (without a l)
among-without a b [] n m = m
among-without a b (c ∷ l) n m = go (eqb a c) refl m (among-without a b l n)
  where
    go : (t : Bool) → eqb a c ≡ t → Among b (c ∷ l) → (Among b l → Among b (without a l)) → Among b (pick t l (c ∷ without a l))
    go true q (inl e) h = absurd (n (e ∙ sym (eqb-true a c q)))
    go true q (inr m) h = m
    go false q (inl e) h = inl e
    go false q (inr m) h = inr (h m)

pub not_more : (xs ys : List ℕ) → Different xs → Each (λ x. Among x ys) xs → length xs ≤ length ys
not_more [] ys d e = omega arith
not_more (x ∷ xs) ys d e =
    let n = length_without x ys e.0 in
    let r = not_more xs (without x ys) d.1 (among-each (λ y. Among y (without x ys)) xs (λ y m. among-without x y ys (λ q. d.0 (subst (λ (z : ℕ). Among z xs) q m)) (each-among (λ y. Among y ys) xs y e.1 m))) in
    omega arith

-- ## The ids of an RNDF
-- p, .., 2, 1
abbrev down : ℕ → List ℕ
down zero = []
down (suc p) = suc p ∷ down p

length-down : (p : ℕ) → length (down p) ≡ p
length-down zero = refl
length-down (suc p) = ap suc (length-down p)

down_is : (p i : ℕ) → Between 1 p i → Among i (down p)
down_is zero i b = absurd (let l = b.low in let h = b.high in omega arith)
down_is (suc p) i b = go (eqb i (suc p)) refl (down_is p i)
  where
    go : (t : Bool) → eqb i (suc p) ≡ t → (Between 1 p i → Among i (down p)) → Among i (down (suc p))
    go true q h = inl (eqb-true i (suc p) q)
    go false q h = let n = eqb-false i (suc p) q in inr (h (record { low = b.low; high = let r = b.high in omega arith }))

is_down : (p i : ℕ) → Among i (down p) → Between 1 p i
is_down zero i m = absurd m
is_down (suc p) i (inl e) = omega arith
is_down (suc p) i (inr m) = let b = is_down p i m in record { low = b.low; high = let r = b.high in omega arith }

down-different : (p : ℕ) → Different (down p)
down-different zero = tt
down-different (suc p) = (λ m. let h = (is_down p (suc p) m).high in omega arith, down-different p)

-- ## So many limits
module _ (p : ℕ) (ids : List ℕ) (known : Each (Between 1 p) ids) (once : Different ids) where
  pub all-counted : some_missing p ids ≡ false → length ids ≡ p
  all-counted h =
      let a = not_more ids (down p) once (each_map (Between 1 p) (λ i. Among i (down p)) (down_is p) ids known) in
      let b = not_more (down p) ids (down-different p) (among-each (λ i. Among i ids) (down p) (λ i m. none-missing p ids h i (is_down p i m))) in
      let c = length-down p in
      omega arith

  pub counted-all : length ids ≡ p → some_missing p ids ≡ false
  counted-all n = go (some_missing p ids) refl
    where
      too_many : SomeMissing p ids → ⊥
      too_many m =
          let a = not_more (m.id ∷ ids) (down p) (m.missing, once) (down_is p m.id m.there, each_map (Between 1 p) (λ i. Among i (down p)) (down_is p) ids known) in
          let c = length-down p in
          omega arith

      go : (t : Bool) → some_missing p ids ≡ t → some_missing p ids ≡ false
      go true q = absurd (too_many (missing-right p ids q))
      go false q = q
