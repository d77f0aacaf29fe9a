-- Laws of statements, and of rows of options: which statements may stand together. Assumes nothing.
use mathlib.Core.Path.{◌≡◌, refl, sym, ap, subst, subst_refl, ◌∙◌, path_j}
use mathlib.Core.List.{List, [], ◌∷◌}
use mathlib.Core.Option.{none, some}
use mathlib.Core.Bool.{Bool, true, false, ◌&&◌}
use mathlib.Core.Logic.{◌⊎◌}
use mathlib.Core.HLevel.{hedberg}
use lib.Dec.{T}
use Rattle.grammar.specs.Language.{Lang, S, say, as_dec, as_kind, all_of}
use Rattle.grammar.specs.Machine.{Opt}

module _ (L : Lang) where
  open L use {Kind, Pay, disc}

  pub as_same : (k : Kind) (v : Pay k) → as_kind L k (say L k v) ≡ some v
  as_same k v = go (disc k k)
    where
      go : (d : Dec (k ≡ k)) → as_dec L k k d v ≡ some v
      go (yes e) = ap some (rw (hedberg disc k k e refl) (subst_refl Pay v))
      go (no n) = absurd (n refl)

  pub as-inv : (k : Kind) (s : S L) (v : Pay k) → as_kind L k s ≡ some v → s ≡ say L k v
  as-inv k s v h = go (disc s.kind k) h
    where
      along : (j : Kind) (e : s.kind ≡ j) (w : Pay j) → subst Pay e s.val ≡ w → s ≡ say L j w
      along j e = path_j (λ j e. (w : Pay j) → subst Pay e s.val ≡ w → s ≡ say L j w) (λ w q. ap (say L s.kind) (sym (subst_refl Pay s.val) ∙ q)) e

      go : (d : Dec (s.kind ≡ k)) → as_dec L k s.kind d s.val ≡ some v → s ≡ say L k v
      go (yes e) q = along k e v (cc)
      go (no n) q = absurd (let z : ◌≡◌ {A = Bool} true false = cc in subst T z tt)

  -- ## Options
  abbrev pub memb : Kind → List Kind → Bool
  memb k [] = false
  memb k (j ∷ js) = elim (disc j k) [ yes e ↦ true | no n ↦ memb k js ]

  -- the kinds of statements behind others, the last first
  abbrev pub kinds-on : List (S L) → List Kind → List Kind
  kinds-on [] ks = ks
  kinds-on (s ∷ l) ks = kinds-on l (s.kind ∷ ks)

  -- a statement is an option of the row with a permitted value; if it may come once, none of its kind was before
  abbrev pub Allowed : List (Opt Kind Pay) → List Kind → S L → Type 0
  Allowed [] before s = ⊥
  Allowed (o ∷ row) before s = ((v : Pay o.on) × (s ≡ say L o.on v) × T (o.test v) × (o.once && memb o.on before ≡ false)) ⊎ Allowed row before s

  -- statements that may stand together, in this order, after those of the kinds `before`
  abbrev pub Fine : List (Opt Kind Pay) → List Kind → List (S L) → Type 0
  Fine row before [] = Unit {0}
  Fine row before (s ∷ os) = Allowed row before s × Fine row (s.kind ∷ before) os

  pub all-some : (k : Kind) (s : S L) (os : List (S L)) (v : Pay k) → as_kind L k s ≡ some v → all_of L k (s ∷ os) ≡ v ∷ all_of L k os
  all-some k s os v q = rw (q, all_of)

  pub all_none : (k : Kind) (s : S L) (os : List (S L)) → as_kind L k s ≡ none → all_of L k (s ∷ os) ≡ all_of L k os
  all_none k s os q = rw (q, all_of)
