-- Laws of statements of one kind among others, and of options, which stand in any order. Assumes nothing.
use mathlib.Core.Path.{◌≡◌, refl, sym, ap₂, subst, ◌∙◌, path_j}
use mathlib.Core.List.{List, [], ◌∷◌, ◌++◌, map}
use mathlib.Core.Bool.{true, false}
use mathlib.Core.Logic.{◌⊎◌, inl, inr}
use Prim.Native.Nat.{ℕ}
use lib.Dec.{T}
use lib.Ieee.Fits.{and_l, and_r}
use Rattle.terms.specs.Words.{Among, InTurn, nothing, then}
use Rattle.terms.proofs.Lists.{each_map, each_append}
use Rattle.grammar.specs.Language.{Lang, S, say, all_of, Only}
use Rattle.grammar.specs.Tables.{gather}
use Rattle.grammar.proofs.LanguageLaws.{as_same, all-some, all_none, memb}
use Rattle.grammar.proofs.MachineLaws.{none_of}
use Rattle.grammar.proofs.HouseLaws.{of_append}
use Rattle.terms.proofs.Computed.{every}

module _ (L : Lang) where
  open L use {Kind, Pay, disc}

  pub to-kind : (k : Kind) (x : S L) → x.kind ≡ k → (v : Pay k) × (x ≡ say L k v)
  to-kind k x e = path_j (λ (j : Kind) (e : x.kind ≡ j). (v : Pay j) × (x ≡ say L j v)) (x.val, refl) e

  -- a statement of this kind stands first of them
  pub own : (k : Kind) (v : Pay k) (os : List (S L)) → all_of L k (say L k v ∷ os) ≡ v ∷ all_of L k os
  own k v os = all-some L k (say L k v) os v (as_same L k v)

  -- ## Options
  -- what holds of no options and stays with each option of these kinds, whatever it says
  abbrev pub Stays : (List (S L) → Type 0) → List Kind → Type 0
  Stays P [] = Unit {0}
  Stays P (k ∷ ks) = ((v : Pay k) (os : List (S L)) → P os → P (say L k v ∷ os)) × Stays P ks

  pub options-by : (P : List (S L) → Type 0) (ks : List Kind) → P [] → Stays P ks → (os : List (S L)) → Only L ks os → P os
  options-by P ks p t [] e = p
  options-by P ks p t (x ∷ os) e = go ks t e.0 (options-by P ks p t os e.1)
    where
      go : (ks : List Kind) → Stays P ks → Among x.kind ks → P os → P (x ∷ os)
      go [] t a h = absurd a
      go (k ∷ ks) t (inl q) h = let y = to-kind k x q in subst (λ (x : S L). P (x ∷ os)) (sym y.1) (t.0 y.0 os h)
      go (k ∷ ks) t (inr a) h = go ks t.1 a h

  -- ## Kinds that do not occur
  pub among-kinds : (k : Kind) (ks : List Kind) → T (memb L k ks) → Among k ks
  among-kinds k [] t = absurd t
  among-kinds k (j ∷ ks) t = go (disc j k) t (among-kinds k ks)
    where
      go : (d : Dec (j ≡ k)) → T (elim d [ yes e ↦ true | no n ↦ memb L k ks ]) → (T (memb L k ks) → Among k ks) → Among k (j ∷ ks)
      go (yes e) t h = inl (sym e)
      go (no n) t h = inr (h t)

  among-not : (k j : Kind) (ks : List Kind) → memb L k ks ≡ false → Among j ks → j ≡ k → ⊥
  among-not k j [] m a e = a
  among-not k j (i ∷ ks) m a e = go (disc i k) m a (λ m a. among-not k j ks m a e)
    where
      go : (d : Dec (i ≡ k)) → elim d [ yes e ↦ true | no n ↦ memb L k ks ] ≡ false → (j ≡ i) ⊎ Among j ks → (memb L k ks ≡ false → Among j ks → ⊥) → ⊥
      go (yes p) m a h = subst T m tt
      go (no n) m (inl q) h = n (sym q ∙ e)
      go (no n) m (inr a) h = h m a

  -- only these kinds: nothing of any other
  pub absent : (k : Kind) (ks : List Kind) → memb L k ks ≡ false → (os : List (S L)) → Only L ks os → all_of L k os ≡ []
  absent k ks m [] e = refl
  absent k ks m (x ∷ os) e = all_none L k x os (none_of L k x (among-not k x.kind ks m e.0)) ∙ absent k ks m os e.1

  pub said-only : (k : Kind) (vs : List (Pay k)) → Only L (k ∷ []) (map (say L k) vs)
  said-only k [] = tt
  said-only k (v ∷ vs) = (inl refl, said-only k vs)

  -- fewer kinds are among more
  pub widen : (ks more : List Kind) → T (every (λ k. memb L k more) ks) → (os : List (S L)) → Only L ks os → Only L more os
  widen ks more t os e = each_map (λ x. Among x.kind ks) (λ x. Among x.kind more) (λ x. wider ks t x.kind) os e
    where
      wider : (ks : List Kind) → T (every (λ k. memb L k more) ks) → (j : Kind) → Among j ks → Among j more
      wider [] t j a = absurd a
      wider (k ∷ ks) t j (inl q) = subst (λ (j : Kind). Among j more) (sym q) (among-kinds k more (and_l (memb L k more) (every (λ k. memb L k more) ks) t))
      wider (k ∷ ks) t j (inr a) = wider ks (and_r (memb L k more) (every (λ k. memb L k more) ks) t) j a

  -- ## Parts one behind the other
  pub in-turn-only : {A : Type 0} {Spells : ℕ → A → List (S L) → Type 0} (ks : List Kind) → ((i : ℕ) (a : A) (u : List (S L)) → Spells i a u → Only L ks u)
      → {i : ℕ} {xs : List A} {w : List (S L)} → InTurn Spells i xs w → Only L ks w
  in-turn-only ks h nothing = tt
  in-turn-only ks h (then {i = i} {a = a} {u = u} {v = v} s t) = each_append (λ x. Among x.kind ks) u v (h i a u s) (in-turn-only ks h t)

  -- what they say of one kind is what each of them says of it
  pub in-turn-of : {A : Type 0} {Spells : ℕ → A → List (S L) → Type 0} (k : Kind) (f : A → List (Pay k)) → ((i : ℕ) (a : A) (u : List (S L)) → Spells i a u → all_of L k u ≡ f a)
      → {i : ℕ} {xs : List A} {w : List (S L)} → InTurn Spells i xs w → all_of L k w ≡ gather f xs
  in-turn-of k f h nothing = refl
  in-turn-of k f h (then {i = i} {a = a} {u = u} {v = v} s t) = of_append L k u v ∙ ap₂ (λ (x y : List (Pay k)). x ++ y) (h i a u s) (in-turn-of k f h t)
