-- Where the statements of one kind stand among the others. For any statements. Assumes nothing.
use mathlib.Core.Path.{◌≡◌, refl, sym, ap, ap₂, subst, ◌∙◌}
use mathlib.Core.List.{List, [], ◌∷◌, ◌++◌}
use mathlib.Core.Option.{Option, none, some}
use Prim.Native.Nat.{ℕ, zero, suc, ◌≤◌, ◌<◌}
use native.Mathlib.Omega.{arith}
use lib.ListN.{length, length-append}
use Rattle.grammar.specs.Language.{Lang, S, say, as_kind, all_of}
use Rattle.grammar.proofs.LanguageLaws.{as-inv}
use Rattle.grammar.proofs.HouseLaws.{of_append}
use Rattle.fill.specs.FirstLines.{here_or_behind, the_place_of}
use Rattle.fill.proofs.MissionLines.{other}
use Rattle.fault_lines.proofs.Said.{split_one}

module _ (L : Lang) where
  open L use {Kind, Pay}

  -- the statement at that place, and what stands before and behind it
  pub record Found (k : Kind) (l : List (S L)) (p : ℕ) : Type 0 where
    pub before : List (S L)
    pub val : Pay k
    pub rest : List (S L)
    pub made : l ≡ before ++ (say L k val ∷ rest)
    pub place : p ≡ length before

  pub found : (k : Kind) (l : List (S L)) (j : ℕ) → j < length (all_of L k l) → Found k l (the_place_of L k l j)
  unfolding the_place_of
  found k [] j h = absurd (omega arith)
  found k (x ∷ l) j h = go (as_kind L k x) refl j h (found k l)
    where
      next : (p : ℕ) → Found k l p → Found k (x ∷ l) (suc p)
      next p f = record { before = x ∷ f.before; val = f.val; rest = f.rest; made = ap (◌∷◌ x) f.made; place = ap suc f.place }

      go : (o : Option (Pay k)) → as_kind L k x ≡ o → (j : ℕ) → j < length {A = Pay k} (elim o [ some v ↦ v ∷ all_of L k l | none ↦ all_of L k l ]) → ((j : ℕ) → j < length (all_of L k l) → Found k l (the_place_of L k l j))
          → Found k (x ∷ l) (here_or_behind L o j (the_place_of L k l))
      go none q j h ih = next (the_place_of L k l j) (ih j h)
      go (some v) q zero h ih = record { before = []; val = v; rest = l; made = ap (λ (x : S L). x ∷ l) (as-inv L k x v q); place = refl }
      go (some v) q (suc j) h ih = next (the_place_of L k l j) (ih j (omega arith))

  -- it is a place of these statements
  pub place_in : (k : Kind) (l : List (S L)) (j : ℕ) → j < length (all_of L k l) → the_place_of L k l j < length l
  place_in k l j h =
      let f = found k l j h in
      let n = length-append f.before (say L k f.val ∷ f.rest) in
      let m = ap (λ (l : List (S L)). length l) f.made in
      let p = f.place in
      omega arith

  -- two kinds do not share one
  pub places-differ : (a b : Kind) (l : List (S L)) (i j : ℕ) → i < length (all_of L a l) → j < length (all_of L b l) → the_place_of L a l i ≡ the_place_of L b l j → a ≡ b
  places-differ a b l i j h g e =
      let f = found a l i h in
      let d = found b l j g in
      let p = f.place in
      let q = d.place in
      let o = split_one f.before d.before (say L a f.val) (say L b d.val) f.rest d.rest (omega arith) (sym f.made ∙ d.made) in
      ap (λ (x : S L). x.kind) o.1

  -- ## Parts one behind the other
  -- a kind that is only in the first part
  place-first : (k : Kind) (a b : List (S L)) (i : ℕ) → all_of L k b ≡ [] → i < length (all_of L k (a ++ b)) → the_place_of L k (a ++ b) i < length a
  unfolding the_place_of
  place-first k [] b i e h = absurd (let n = ap (λ (l : List (Pay k)). length l) e in omega arith)
  place-first k (x ∷ a) b i e h = go (as_kind L k x) i h (λ i. place-first k a b i e)
    where
      go : (o : Option (Pay k)) (i : ℕ) → i < length {A = Pay k} (elim o [ some v ↦ v ∷ all_of L k (a ++ b) | none ↦ all_of L k (a ++ b) ]) → ((i : ℕ) → i < length (all_of L k (a ++ b)) → the_place_of L k (a ++ b) i < length a)
          → here_or_behind L o i (the_place_of L k (a ++ b)) < suc (length a)
      go none i h ih = let p = ih i h in omega arith
      go (some v) zero h ih = omega arith
      go (some v) (suc i) h ih = let p = ih i (omega arith) in omega arith

  -- only in the second
  place-second : (k : Kind) (a b : List (S L)) (i : ℕ) → all_of L k a ≡ [] → length a ≤ the_place_of L k (a ++ b) i
  unfolding the_place_of
  place-second k [] b i e = omega arith
  place-second k (x ∷ a) b i e = other L k x a e (λ q e. rw q (let p = place-second k a b i e in omega arith))

  pub parts_in-order : (j k : Kind) (l a b : List (S L)) → l ≡ a ++ b → all_of L j b ≡ [] → all_of L k a ≡ [] → (i m : ℕ) → i < length (all_of L j l) → the_place_of L j l i < the_place_of L k l m
  parts_in-order j k l a b made e d i m h =
      let p = place-first j a b i e (subst (λ (l : List (S L)). i < length (all_of L j l)) made h) in
      let q = place-second k a b m d in
      subst (λ (l : List (S L)). the_place_of L j l i < the_place_of L k l m) (sym made) (omega arith)

  pub in-neither : (k : Kind) (a b : List (S L)) → all_of L k a ≡ [] → all_of L k b ≡ [] → all_of L k (a ++ b) ≡ []
  in-neither k a b e d = of_append L k a b ∙ ap₂ (λ (x y : List (Pay k)). x ++ y) e d
