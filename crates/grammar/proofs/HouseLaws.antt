-- The house order of options: those of each kind, in the order of a row. Proved once, for all parts. Assumes nothing.
use mathlib.Core.Path.{◌≡◌, refl, sym, ap, ap₂, subst, ◌∙◌}
use mathlib.Core.List.{List, [], ◌∷◌, ◌++◌, map, append-nil}
use mathlib.Core.Option.{Option, none, some}
use mathlib.Core.Bool.{false}
use mathlib.Core.Logic.{inl, inr}
use Prim.Native.Nat.{ℕ, suc}
use lib.Dec.{T}
use lib.Ieee.Fits.{and_l, and_r}
use Rattle.terms.specs.Words.{Each, Among, InTurn, nothing, then}
use Rattle.grammar.specs.Language.{Lang, S, say, as_kind, all_of}
use Rattle.grammar.specs.Machine.{lacks, distinct}
use Rattle.grammar.specs.Choices.{Choice, opts}
use Rattle.grammar.specs.HouseOrder.{in_turn}
use Rattle.grammar.proofs.LanguageLaws.{as_same, all-some, all_none}
use Rattle.grammar.proofs.MachineLaws.{none_of}
use Rattle.grammar.proofs.Options.{listed, kinds, Holds, Has, Given}

pub in-turn_spells : {A X : Type 0} (Sp : ℕ → A → List X → Type 0) (Good : A → Type 0) (f : ℕ → A → List X) → ((i : ℕ) (a : A) → Good a → Sp i a (f i a)) → (i : ℕ) (l : List A) → Each Good l → InTurn Sp i l (in_turn f i l)
in-turn_spells Sp Good f h i [] g = nothing
in-turn_spells Sp Good f h i (a ∷ l) g = then (h i a g.0) (in-turn_spells Sp Good f h (suc i) l g.1)

module _ (L : Lang) where
  open L use {Kind, Pay, disc}

  abbrev pub house : (row : List (Choice Kind Pay)) → Holds L row → List (S L)
  house [] h = []
  house (o ∷ row) h = map (λ c. say L o.on (o.form.line c)) (listed o.once h.0) ++ house row h.1

  abbrev Fits : (row : List (Choice Kind Pay)) → Holds L row → Type 0
  Fits [] h = Unit {0}
  Fits (o ∷ row) h = Each o.form.Good (listed o.once h.0) × Fits row h.1

  pub of_append : (k : Kind) (a b : List (S L)) → all_of L k (a ++ b) ≡ all_of L k a ++ all_of L k b
  of_append k [] b = refl
  of_append k (s ∷ a) b = go (as_kind L k s) refl (of_append k a b)
    where
      go : (x : Option (Pay k)) → as_kind L k s ≡ x → all_of L k (a ++ b) ≡ all_of L k a ++ all_of L k b → all_of L k (s ∷ (a ++ b)) ≡ all_of L k (s ∷ a) ++ all_of L k b
      go (some v) q ih = rw (all-some L k s (a ++ b) v q, all-some L k s a v q, ih)
      go none q ih = rw (all_none L k s (a ++ b) q, all_none L k s a q, ih)

  pub of-own : {C : Type 0} (k : Kind) (f : C → Pay k) (cs : List C) → all_of L k (map (λ c. say L k (f c)) cs) ≡ map f cs
  of-own k f [] = refl
  of-own k f (c ∷ cs) = all-some L k (say L k (f c)) (map (λ c. say L k (f c)) cs) (f c) (as_same L k (f c)) ∙ ap (◌∷◌ (f c)) (of-own k f cs)

  pub of_other : {C : Type 0} (k j : Kind) (f : C → Pay j) → (j ≡ k → ⊥) → (cs : List C) → all_of L k (map (λ c. say L j (f c)) cs) ≡ []
  of_other k j f n [] = refl
  of_other k j f n (c ∷ cs) = all_none L k (say L j (f c)) (map (λ c. say L j (f c)) cs) (none_of L k (say L j (f c)) n) ∙ of_other k j f n cs

  -- a row that lacks a kind says nothing of it
  of-lacking : (k : Kind) (row : List (Choice Kind Pay)) (h : Holds L row) → T (lacks L k (opts L row)) → all_of L k (house row h) ≡ []
  of-lacking k [] h t = refl
  of-lacking k (o ∷ row) h t = go (disc k o.on) t (of-lacking k row h.1)
    where
      own : List (S L)
      own = map (λ c. say L o.on (o.form.line c)) (listed o.once h.0)

      go : (d : Dec (k ≡ o.on)) → T (elim d [ yes e ↦ false | no n ↦ lacks L k (opts L row) ]) → (T (lacks L k (opts L row)) → all_of L k (house row h.1) ≡ []) → all_of L k (own ++ house row h.1) ≡ []
      go (yes e) t ih = absurd t
      go (no n) t ih = of_append k own (house row h.1) ∙ ap₂ (λ (a b : List (Pay k)). a ++ b) (of_other k o.on o.form.line (λ e. n (sym e)) (listed o.once h.0)) (ih t)

  -- statements of other kinds in front change nothing
  has-behind : (front : List (S L)) (row : List (Choice Kind Pay)) (h : Holds L row) (os : List (S L)) (k : Kind) → T (lacks L k (opts L row)) → ((j : Kind) → (k ≡ j → ⊥) → all_of L j front ≡ []) → Has L row h os → Has L row h (front ++ os)
  has-behind front [] h os k t n x = tt
  has-behind front (o ∷ row) h os k t n x = go (disc k o.on) t (λ t. has-behind front row h.1 os k t n x.2)
    where
      go : (d : Dec (k ≡ o.on)) → T (elim d [ yes e ↦ false | no n ↦ lacks L k (opts L row) ]) → (T (lacks L k (opts L row)) → Has L row h.1 (front ++ os)) → Has L (o ∷ row) h (front ++ os)
      go (yes e) t ih = absurd t
      go (no m) t ih = (of_append o.on front os ∙ rw (n o.on m) x.0, x.1, ih t)

  house-has : (row : List (Choice Kind Pay)) (h : Holds L row) → T (distinct L (opts L row)) → Fits row h → Has L row h (house row h)
  house-has [] h t g = tt
  house-has (o ∷ row) h t g =
      let l = and_l (lacks L o.on (opts L row)) (distinct L (opts L row)) t in
      let cs = listed o.once h.0 in
      let own = map (λ c. say L o.on (o.form.line c)) cs in (
        of_append o.on own (house row h.1) ∙ rw (of-own o.on o.form.line cs, of-lacking o.on row h.1 l) (append-nil (map o.form.line cs)),
        g.0,
        has-behind own row h.1 (house row h.1) o.on l (λ j n. of_other j o.on o.form.line n cs) (house-has row h.1 (and_r (lacks L o.on (opts L row)) (distinct L (opts L row)) t) g.1),
      )

  all_among : (k : Kind) (ks : List Kind) → Among k ks → {C : Type 0} (f : C → Pay k) (cs : List C) (os : List (S L)) → Each (λ s. Among s.kind ks) os → Each (λ s. Among s.kind ks) (map (λ c. say L k (f c)) cs ++ os)
  all_among k ks a f [] os e = e
  all_among k ks a f (c ∷ cs) os e = (a, all_among k ks a f cs os e)

  house-among : (row : List (Choice Kind Pay)) (h : Holds L row) (ks : List Kind) → ((k : Kind) → Among k (kinds L row) → Among k ks) → Each (λ s. Among s.kind ks) (house row h)
  house-among [] h ks f = tt
  house-among (o ∷ row) h ks f = all_among o.on ks (f o.on (inl refl)) o.form.line (listed o.once h.0) (house row h.1) (house-among row h.1 ks (λ k a. f k (inr a)))

  pub house-given : (row : List (Choice Kind Pay)) (h : Holds L row) → T (distinct L (opts L row)) → Fits row h → Given L row h (house row h)
  house-given row h t g = (house-has row h t g, house-among row h (kinds L row) (λ k a. a))

  pub house_as : (row : List (Choice Kind Pay)) (h : Holds L row) (os : List (S L)) → house row h ≡ os → T (distinct L (opts L row)) → Fits row h → Given L row h os
  house_as row h os e t g = subst (Given L row h) e (house-given row h t g)
