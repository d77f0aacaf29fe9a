-- Options of different kinds, among which nothing else stands, are those of each kind in any order; and back. Assumes nothing.
use mathlib.Core.Path.{◌≡◌, refl, sym, ap, subst, ◌∙◌}
use mathlib.Core.List.{List, [], ◌∷◌, map}
use mathlib.Core.Option.{Option, none, some}
use mathlib.Core.Bool.{Bool, true, false, ◌&&◌}
use mathlib.Core.Logic.{inl, inr}
use lib.Dec.{T}
use lib.Ieee.Fits.{and_l, and_r}
use Rattle.terms.specs.Words.{Each, Among}
use Rattle.terms.proofs.Lists.{map-id}
use Rattle.terms.proofs.Tests.{nothing}
use Rattle.law.specs.Network.{Mixed, AnyOrder}
use Rattle.law.specs.Network as Law
use Rattle.grammar.specs.Language.{Lang, S, say, as_dec, as_kind, all_of, Only}
use Rattle.grammar.proofs.LanguageLaws.{as-inv, all-some, all_none}
use Rattle.grammar.proofs.MachineLaws.{none_of}
use Rattle.grammar.proofs.HouseLaws.{of-own}
use Rattle.law_spelling.proofs.Lines.{nothing_else}
use Rattle.law_spelling.proofs.Mixing.{any-to, any-back}

module _ (L : Lang) where
  open L use {Kind, Pay, disc}

  -- this kind is none of these; they all differ
  abbrev pub apart : Kind → List Kind → Bool
  apart k [] = true
  apart k (j ∷ ks) = elim (disc k j) [ yes e ↦ false | no n ↦ apart k ks ]

  abbrev pub differ : List Kind → Bool
  differ [] = true
  differ (k ∷ ks) = apart k ks && differ ks

  -- what is said of each kind, in its order
  abbrev pub Values : List Kind → Type 0
  Values [] = Unit {0}
  Values (k ∷ ks) = List (Pay k) × Values ks

  abbrev pub Has : (ks : List Kind) → Values ks → List (S L) → Type 0
  Has [] vs os = Unit {0}
  Has (k ∷ ks) vs os = (all_of L k os ≡ vs.0) × Has ks vs.1 os

  abbrev pub options : (ks : List Kind) → Values ks → List (List (S L))
  options [] vs = []
  options (k ∷ ks) vs = map (say L k) vs.0 ∷ options ks vs.1

  -- ## Kinds that differ
  apart-not : (k j : Kind) (ks : List Kind) → T (apart k (j ∷ ks)) → (k ≡ j → ⊥) × T (apart k ks)
  apart-not k j ks t = go (disc k j) t
    where
      go : (d : Dec (k ≡ j)) → T (elim d [ yes e ↦ false | no n ↦ apart k ks ]) → (k ≡ j → ⊥) × T (apart k ks)
      go (yes e) t = absurd t
      go (no n) t = (n, t)

  abbrev Without : Kind → List (S L) → Type 0
  Without k os = Each (λ s. as_kind L k s ≡ none) os

  among-other : (k : Kind) (ks : List Kind) (j : Kind) → T (apart k ks) → Among j ks → j ≡ k → ⊥
  among-other k [] j t a e = a
  among-other k (i ∷ ks) j t (inl q) e = (apart-not k i ks t).0 (sym e ∙ q)
  among-other k (i ∷ ks) j t (inr a) e = among-other k ks j (apart-not k i ks t).1 a e

  only-without : (k : Kind) (ks : List Kind) (os : List (S L)) → T (apart k ks) → Only L ks os → Without k os
  only-without k ks [] t o = tt
  only-without k ks (s ∷ os) t o = (none_of L k s (among-other k ks s.kind t o.0), only-without k ks os t o.1)

  said-without : (j k : Kind) (vs : List (Pay k)) → (k ≡ j → ⊥) → Without j (map (say L k) vs)
  said-without j k [] n = tt
  said-without j k (v ∷ vs) n = (none_of L j (say L k v) n, said-without j k vs n)

  said-only : (k : Kind) (ks : List Kind) (vs : List (Pay k)) → Only L (k ∷ ks) (map (say L k) vs)
  said-only k ks [] = tt
  said-only k ks (v ∷ vs) = (inl refl, said-only k ks vs)

  more-only : (k : Kind) (ks : List Kind) (os : List (S L)) → Only L ks os → Only L (k ∷ ks) os
  more-only k ks [] o = tt
  more-only k ks (s ∷ os) o = (inr o.0, more-only k ks os o.1)

  -- ## Split off one kind
  abbrev others : Kind → List (S L) → List (S L)
  others k [] = []
  others k (s ∷ os) = elim (as_kind L k s) [ some v ↦ others k os | none ↦ s ∷ others k os ]

  others-some : (k : Kind) (s : S L) (os : List (S L)) (v : Pay k) → as_kind L k s ≡ some v → others k (s ∷ os) ≡ others k os
  others-some k s os v q = rw (q, others)

  others-none : (k : Kind) (s : S L) (os : List (S L)) → as_kind L k s ≡ none → others k (s ∷ os) ≡ s ∷ others k os
  others-none k s os q = rw (q, others)

  split_one : (k : Kind) (os : List (S L)) → Mixed (map (say L k) (all_of L k os)) (others k os) os
  split_one k [] = Law.none
  split_one k (s ∷ os) = go (as_kind L k s) refl (split_one k os)
    where
      go : (x : Option (Pay k)) → as_kind L k s ≡ x → Mixed (map (say L k) (all_of L k os)) (others k os) os → Mixed (map (say L k) (all_of L k (s ∷ os))) (others k (s ∷ os)) (s ∷ os)
      go (some v) q m = rw (all-some L k s os v q, others-some k s os v q) (subst (λ (t : S L). Mixed (say L k v ∷ map (say L k) (all_of L k os)) (others k os) (t ∷ os)) (sym (as-inv L k s v q)) (Law.left m))
      go none q m = rw (all_none L k s os q, others-none k s os q) (Law.right m)

  -- ## Of a kind that one of two mixed lists lacks
  swap : {l r both : List (S L)} → Mixed l r both → Mixed r l both
  swap Law.none = Law.none
  swap (Law.left m) = Law.right (swap m)
  swap (Law.right m) = Law.left (swap m)

  skip : (j : Kind) (l r both : List (S L)) → Mixed l r both → Without j l → all_of L j both ≡ all_of L j r
  skip j [] [] both Law.none w = refl
  skip j l r both (Law.left {a = a} {l = l'} {both = both'} m) w = all_none L j a both' w.0 ∙ skip j l' r both' m w.1
  skip j l r both (Law.right {a = a} {r = r'} {both = both'} m) w = go (as_kind L j a) refl (skip j l r' both' m w)
    where
      go : (x : Option (Pay j)) → as_kind L j a ≡ x → all_of L j both' ≡ all_of L j r' → all_of L j (a ∷ both') ≡ all_of L j (a ∷ r')
      go (some v) q e = rw (all-some L j a both' v q, all-some L j a r' v q, e)
      go none q e = rw (all_none L j a both' q, all_none L j a r' q, e)

  each-mixed : (P : S L → Type 0) (l r both : List (S L)) → Mixed l r both → Each P l → Each P r → Each P both
  each-mixed P [] [] both Law.none x y = tt
  each-mixed P l r both (Law.left {l = l'} {both = both'} m) x y = (x.0, each-mixed P l' r both' m x.1 y)
  each-mixed P l r both (Law.right {r = r'} {both = both'} m) x y = (y.0, each-mixed P l r' both' m x y.1)

  each_right : (P : S L → Type 0) (l r both : List (S L)) → Mixed l r both → Each P both → Each P r
  each_right P [] [] both Law.none x = tt
  each_right P l r both (Law.left {l = l'} {both = both'} m) x = each_right P l' r both' m x.1
  each_right P l r both (Law.right {r = r'} {both = both'} m) x = (x.0, each_right P l r' both' m x.1)

  -- the others are of the other kinds
  others-without : (k : Kind) (os : List (S L)) → Without k (others k os)
  others-without k [] = tt
  others-without k (s ∷ os) = go (as_kind L k s) refl (others-without k os)
    where
      go : (x : Option (Pay k)) → as_kind L k s ≡ x → Without k (others k os) → Without k (others k (s ∷ os))
      go (some v) q w = rw (others-some k s os v q) w
      go none q w = rw (others-none k s os q) (q, w)

  without-only : (k : Kind) (ks : List Kind) (os : List (S L)) → Without k os → Only L (k ∷ ks) os → Only L ks os
  without-only k ks [] w o = tt
  without-only k ks (s ∷ os) w o = (go o.0, without-only k ks os w.1 o.1)
    where
      go : Among s.kind (k ∷ ks) → Among s.kind ks
      go (inl e) = absurd (one (disc s.kind k) w.0)
        where
          one : (d : Dec (s.kind ≡ k)) → as_dec L k s.kind d s.val ≡ none → ⊥
          one (yes e) q = nothing (sym q)
          one (no n) q = n e
      go (inr a) = a

  has-others : (k : Kind) (ks : List Kind) (vs : Values ks) (l r both : List (S L)) → T (apart k ks) → ((j : Kind) → (k ≡ j → ⊥) → Without j l) → Mixed l r both → Has ks vs both → Has ks vs r
  has-others k [] vs l r both t w m h = tt
  has-others k (j ∷ ks) vs l r both t w m h = let x = apart-not k j ks t in (sym (skip j l r both m (w j x.0)) ∙ h.0, has-others k ks vs.1 l r both x.1 w m h.1)

  has_both : (k : Kind) (ks : List Kind) (vs : Values ks) (l r both : List (S L)) → T (apart k ks) → ((j : Kind) → (k ≡ j → ⊥) → Without j l) → Mixed l r both → Has ks vs r → Has ks vs both
  has_both k [] vs l r both t w m h = tt
  has_both k (j ∷ ks) vs l r both t w m h = let x = apart-not k j ks t in (skip j l r both m (w j x.0) ∙ h.0, has_both k ks vs.1 l r both x.1 w m h.1)

  -- ## The two are one
  pub split : (ks : List Kind) (vs : Values ks) (os : List (S L)) → T (differ ks) → Has ks vs os → Only L ks os → AnyOrder (options ks vs) os
  split [] vs [] d h o = refl
  split [] vs (s ∷ os) d h o = absurd o.0
  split (k ∷ ks) vs os d h o =
      let a = and_l (apart k ks) (differ ks) d in
      let own = map (say L k) (all_of L k os) in
      let m = split_one k os in
      let rest = split ks vs.1 (others k os) (and_r (apart k ks) (differ ks) d) (has-others k ks vs.1 own (others k os) os a (λ j n. said-without j k (all_of L k os) n) m h.1) (without-only k ks (others k os) (others-without k os) (each_right (λ s. Among s.kind (k ∷ ks)) own (others k os) os m o)) in
      (others k os, rest, subst (λ (l : List (Pay k)). Mixed (map (say L k) l) (others k os) os) h.0 m)

  pub join : (ks : List Kind) (vs : Values ks) (os : List (S L)) → T (differ ks) → AnyOrder (options ks vs) os → Has ks vs os × Only L ks os
  join [] vs [] d h = (tt, tt)
  join [] vs (s ∷ os) d h = nothing_else s os (sym h)
  join (k ∷ ks) vs os d h =
      let a = and_l (apart k ks) (differ ks) d in
      let own = map (say L k) vs.0 in
      let x = join ks vs.1 h.0 (and_r (apart k ks) (differ ks) d) h.1 in
      let e : all_of L k os ≡ vs.0 = skip k h.0 own os (swap h.2) (only-without k ks h.0 a x.1) ∙ of-own L k (λ v. v) vs.0 ∙ map-id vs.0 in
      ((e, has_both k ks vs.1 own h.0 os a (λ j n. said-without j k vs.0 n) h.2 x.0), each-mixed (λ s. Among s.kind (k ∷ ks)) own h.0 os h.2 (said-only k ks vs.0) (more-only k ks h.0 x.1))

  -- ## One kind alone
  alone : {l os : List (S L)} → Mixed l [] os → os ≡ l
  alone Law.none = refl
  alone (Law.left {a = a} m) = ap (◌∷◌ a) (alone m)

  pub only_one : (k : Kind) (vs : List (Pay k)) (os : List (S L)) → all_of L k os ≡ vs → Only L (k ∷ []) os → os ≡ map (say L k) vs
  only_one k vs os e o = let x = split (k ∷ []) (vs, tt) os tt (e, tt) o in alone (subst (λ (r : List (S L)). Mixed (map (say L k) vs) r os) x.1 x.2)

  pub one_only : (k : Kind) (vs : List (Pay k)) → (all_of L k (map (say L k) vs) ≡ vs) × Only L (k ∷ []) (map (say L k) vs)
  one_only k vs = (of-own L k (λ v. v) vs ∙ map-id vs, said-only k [] vs)

  -- ## What is made of each
  module _ {B : Type 0} (f : S L → B) where
    pub options-to : (ks : List Kind) (vs : Values ks) (ls : List (List B)) (os : List (S L)) → T (differ ks) → map (map f) (options ks vs) ≡ ls → Has ks vs os → Only L ks os → AnyOrder ls (map f os)
    options-to ks vs ls os d e h o = subst (λ (ls : List (List B)). AnyOrder ls (map f os)) e (any-to f (options ks vs) os (split ks vs os d h o))

    pub options-back : (ks : List Kind) (vs : Values ks) (ls : List (List B)) (l : List B) → T (differ ks) → map (map f) (options ks vs) ≡ ls → AnyOrder ls l → (os : List (S L)) × (l ≡ map f os) × Has ks vs os × Only L ks os
    options-back ks vs ls l d e h =
        let x = any-back f (options ks vs) l (subst (λ (ls : List (List B)). AnyOrder ls l) (sym e) h) in
        let y = join ks vs x.0 d x.2 in
        (x.0, x.1, y.0, y.1)
