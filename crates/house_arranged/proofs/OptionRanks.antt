-- The options of one rank are those of one kind, where no other kind of these has that rank. For the statements of every file. Assumes nothing.
use mathlib.Core.Path.{◌≡◌, refl, sym, ap, ◌∙◌}
use mathlib.Core.List.{List, [], ◌∷◌, map}
use mathlib.Core.Option.{Option, none, some}
use mathlib.Core.Bool.{Bool, true, false, not, ◌&&◌}
use mathlib.Core.Logic.{inl, inr}
use Prim.Native.Nat.{ℕ}
use borrow.Author.Tests.{eq-eqb, eqb-false}
use lib.Dec.{T, eqb}
use lib.Ieee.Fits.{and_l, and_r}
use Rattle.terms.specs.Words.{Among}
use Rattle.terms.proofs.Lists.{each_map}
use Rattle.terms.proofs.Tests.{nothing}
use Rattle.grammar.specs.Language.{Lang, S, say, as_dec, as_kind, all_of, Only}
use Rattle.grammar.proofs.LanguageLaws.{as-inv, all-some, all_none}
use Rattle.house_arranged.specs.Order.{ranked}
use Rattle.house_arranged.proofs.Settling.{Options}

not-true : (b : Bool) → T (not b) → b ≡ false
not-true true t = absurd t
not-true false t = refl

module _ (L : Lang) (rank : L.Kind → ℕ) where
  open L use {Kind, Pay, disc}

  abbrev of_stmt : S L → ℕ
  of_stmt s = rank s.kind

  -- none of these kinds has rank n
  abbrev pub lacking : ℕ → List Kind → Bool
  lacking n [] = true
  lacking n (j ∷ ks) = not (eqb (rank j) n) && lacking n ks

  -- none of these kinds but k has the rank of k
  abbrev pub alone : Kind → List Kind → Bool
  alone k [] = true
  alone k (j ∷ ks) = elim (disc j k) [ yes e ↦ true | no n ↦ not (eqb (rank j) (rank k)) ] && alone k ks

  lacking-is : (n : ℕ) (ks : List Kind) (j : Kind) → T (lacking n ks) → Among j ks → eqb (rank j) n ≡ false
  lacking-is n [] j t a = absurd a
  lacking-is n (i ∷ ks) j t (inl e) = rw e (not-true (eqb (rank i) n) (and_l (not (eqb (rank i) n)) (lacking n ks) t))
  lacking-is n (i ∷ ks) j t (inr a) = lacking-is n ks j (and_r (not (eqb (rank i) n)) (lacking n ks) t) a

  alone-is : (k : Kind) (ks : List Kind) (j : Kind) → T (alone k ks) → Among j ks → (j ≡ k → ⊥) → eqb (rank j) (rank k) ≡ false
  alone-is k [] j t a n = absurd a
  alone-is k (i ∷ ks) j t (inl e) n = go (disc i k) (and_l (elim (disc i k) [ yes e ↦ true | no n ↦ not (eqb (rank i) (rank k)) ]) (alone k ks) t)
    where
      go : (d : Dec (i ≡ k)) → T (elim d [ yes e ↦ true | no n ↦ not (eqb (rank i) (rank k)) ]) → eqb (rank j) (rank k) ≡ false
      go (yes q) t = absurd (n (e ∙ q))
      go (no m) t = rw e (not-true (eqb (rank i) (rank k)) t)
  alone-is k (i ∷ ks) j t (inr a) n = alone-is k ks j (and_r (elim (disc i k) [ yes e ↦ true | no n ↦ not (eqb (rank i) (rank k)) ]) (alone k ks) t) a n

  -- ## Statements of these kinds
  module _ (ks : List Kind) where
    pub only-options : T (lacking 0 ks) → (os : List (S L)) → Only L ks os → Options of_stmt os
    only-options t os o = each_map (λ s. Among s.kind ks) (λ s. rank s.kind ≡ 0 → ⊥) (λ s a. eqb-false (rank s.kind) 0 (lacking-is 0 ks s.kind t a)) os o

    pub none-ranked : (n : ℕ) → T (lacking n ks) → (os : List (S L)) → Only L ks os → ranked of_stmt n os ≡ []
    unfolding ranked
    none-ranked n t [] o = refl
    none-ranked n t (s ∷ os) o = rw (lacking-is n ks s.kind t o.0) (none-ranked n t os o.1)

    kind-ranked : (k : Kind) → T (alone k ks) → (os : List (S L)) → Only L ks os → ranked of_stmt (rank k) os ≡ map (say L k) (all_of L k os)
    unfolding ranked
    kind-ranked k t [] o = refl
    kind-ranked k t (s ∷ os) o = go (as_kind L k s) refl (kind-ranked k t os o.1)
      where
        differs : (d : Dec (s.kind ≡ k)) → as_dec L k s.kind d s.val ≡ none → s.kind ≡ k → ⊥
        differs (yes p) q e = nothing (sym q)
        differs (no n) q e = n e

        go : (x : Option (Pay k)) → as_kind L k s ≡ x → ranked of_stmt (rank k) os ≡ map (say L k) (all_of L k os) → ranked of_stmt (rank k) (s ∷ os) ≡ map (say L k) (all_of L k (s ∷ os))
        go (some v) q ih = rw (all-some L k s os v q, as-inv L k s v q, eq-eqb (rank k) (rank k) refl) (ap (◌∷◌ (say L k v)) ih)
        go none q ih = rw (all_none L k s os q, alone-is k ks s.kind t o.0 (differs (disc s.kind k) q)) ih

    pub own-ranked : (k : Kind) → T (alone k ks) → (os : List (S L)) → Only L ks os → {vs : List (Pay k)} → all_of L k os ≡ vs → ranked of_stmt (rank k) os ≡ map (say L k) vs
    own-ranked k t os o e = kind-ranked k t os o ∙ ap (map (say L k)) e
