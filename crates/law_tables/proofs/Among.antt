-- What is among a list that is told in another way, and among the statements of one kind. Assumes nothing.
use mathlib.Core.Path.{◌≡◌, refl, sym, ap, ap₂, subst, ◌∙◌}
use mathlib.Core.List.{List, [], ◌∷◌, ◌++◌, map, head-eq_of_cons-eq, tail-eq_of_cons-eq, cons≢nil}
use mathlib.Core.Option.{Option, none, some}
use mathlib.Core.Logic.{inl, inr}
use Rattle.terms.specs.Words.{Among}
use Rattle.grammar.specs.Language.{Lang, S, say, as_kind, all_of}
use Rattle.grammar.proofs.LanguageLaws.{as_same, as-inv, all-some, all_none}

module _ {A B : Type 0} (g : A → B) where
  pub among_map : (a : A) (l : List A) → Among a l → Among (g a) (map g l)
  among_map a [] m = absurd m
  among_map a (b ∷ l) (inl e) = inl (ap g e)
  among_map a (b ∷ l) (inr m) = inr (among_map a l m)

  pub among-told : (b : B) (l : List A) → Among b (map g l) → (a : A) × Among a l × (b ≡ g a)
  among-told b [] m = absurd m
  among-told b (a ∷ l) (inl e) = (a, inl refl, e)
  among-told b (a ∷ l) (inr m) = let t = among-told b l m in (t.0, inr t.1, t.2)

  -- a list that g tells, cut in two
  pub record Parted (l : List A) (front : List B) (b : B) : Type 0 where
    pub before : List A
    pub this : A
    pub rest : List A
    pub made : l ≡ before ++ (this ∷ rest)
    pub fronted : front ≡ map g before
    pub told : b ≡ g this

  pub parted : (l : List A) (front : List B) (b : B) (rest : List B) → front ++ (b ∷ rest) ≡ map g l → Parted l front b
  parted [] [] b rest e = absurd (cons≢nil e)
  parted [] (c ∷ front) b rest e = absurd (cons≢nil e)
  parted (a ∷ l) [] b rest e = record { before = []; this = a; rest = l; made = refl; fronted = refl; told = head-eq_of_cons-eq e }
  parted (a ∷ l) (c ∷ front) b rest e =
      let p = parted l front b rest (tail-eq_of_cons-eq e) in
      record { before = a ∷ p.before; this = p.this; rest = p.rest; made = ap (◌∷◌ a) p.made; fronted = ap₂ ◌∷◌ (head-eq_of_cons-eq e) p.fronted; told = p.told }

-- ## Statements of one kind
module _ (L : Lang) where
  open L use {Kind, Pay}

  pub among-kind : (k : Kind) (v : Pay k) (l : List (S L)) → Among (say L k v) l → Among v (all_of L k l)
  among-kind k v [] m = absurd m
  among-kind k v (x ∷ l) (inl e) = subst (Among v) (sym (all-some L k x l v (ap (as_kind L k) (sym e) ∙ as_same L k v))) (inl refl)
  among-kind k v (x ∷ l) (inr m) = go (as_kind L k x) refl (among-kind k v l m)
    where
      go : (o : Option (Pay k)) → as_kind L k x ≡ o → Among v (all_of L k l) → Among v (all_of L k (x ∷ l))
      go none q m = subst (Among v) (sym (all_none L k x l q)) m
      go (some w) q m = subst (Among v) (sym (all-some L k x l w q)) (inr m)

  pub kind-among : (k : Kind) (v : Pay k) (l : List (S L)) → Among v (all_of L k l) → Among (say L k v) l
  kind-among k v [] m = absurd m
  kind-among k v (x ∷ l) m = go (as_kind L k x) refl (kind-among k v l)
    where
      either : (w : Pay k) → as_kind L k x ≡ some w → (Among v (all_of L k l) → Among (say L k v) l) → Among v (w ∷ all_of L k l) → Among (say L k v) (x ∷ l)
      either w q more (inl e) = inl (ap (say L k) e ∙ sym (as-inv L k x w q))
      either w q more (inr m) = inr (more m)

      go : (o : Option (Pay k)) → as_kind L k x ≡ o → (Among v (all_of L k l) → Among (say L k v) l) → Among (say L k v) (x ∷ l)
      go none q more = inr (more (subst (Among v) (all_none L k x l q) m))
      go (some w) q more = either w q more (subst (Among v) (all-some L k x l w q) m)
