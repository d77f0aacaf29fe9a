-- The first statement at fault, by the first rows at fault. For any statements. Assumes nothing.
use mathlib.Core.Path.{◌≡◌, refl, ap, subst, ◌∙◌}
use mathlib.Core.List.{List, [], ◌∷◌, ◌++◌, map, map-append, append-nil}
use mathlib.Core.Option.{Option, none, some}
use mathlib.Core.Bool.{Bool, true, false}
use Prim.Native.Nat.{ℕ, suc, ◌+◌, ◌-◌, ◌<◌, ◌≤◌}
use native.Mathlib.Omega.{arith}
use lib.ListN.{length, length-append}
use borrow.Author.Tests.{le-leb, lt-leb}
use Rattle.grammar.specs.Language.{Lang, S, as_kind, all_of}
use Rattle.grammar.proofs.LanguageLaws.{all-some, all_none}
use Rattle.grammar.proofs.HouseLaws.{of_append}
use Rattle.fill.specs.FirstFaults.{Fault, fault, fault_if, or_behind, or_else, first_fault}
use Rattle.fill.specs.FirstLines.{said, the_place_of, placed, earlier}

-- a row at fault is not among those in front
pub not-before : {A : Type 0} (test : List A → A → Option ℕ) (front l : List A) (f : Fault) → first_fault test front l ≡ some f → length front ≤ f.row
unfolding first_fault
not-before test front [] f h = absurd (let z : ◌≡◌ {A = ℕ} 0 1 = cc in omega arith)
not-before test front (a ∷ l) f h = go (test front a) h (not-before test (front ++ (a ∷ [])) l f)
  where
    go : (o : Option ℕ) → or_behind (length front) o (first_fault test (front ++ (a ∷ [])) l) ≡ some f → (first_fault test (front ++ (a ∷ [])) l ≡ some f → length (front ++ (a ∷ [])) ≤ f.row) → length front ≤ f.row
    go (some k) h ih = let e : fault (length front) k ≡ f = cc in let r = ap (λ (f : Fault). f.row) e in omega arith
    go none h ih = let n = length-append front (a ∷ []) in let r = ih h in omega arith

-- ## No fault
none-some : {f : Fault} → ◌≡◌ {A = Option Fault} (some f) none → ⊥
none-some e = let z : ◌≡◌ {A = ℕ} 0 1 = cc in omega arith

pub earlier-none : (a b : Option Fault) → earlier a b ≡ none → (a ≡ none) × (b ≡ none)
earlier-none none b h = (refl, h)
earlier-none (some f) none h = absurd (none-some h)
earlier-none (some f) (some g) h = absurd (none-some h)

pub placed-none : (L : Lang) (k : L.Kind) (l : List (S L)) (o : Option Fault) → placed L k l o ≡ none → o ≡ none
placed-none L k l none h = refl
placed-none L k l (some f) h = absurd (none-some h)

-- of one row alone
pub alone-none : (t : Bool) (i k : ℕ) → or_behind i (fault_if t k) none ≡ none → t ≡ false
alone-none true i k h = absurd (none-some h)
alone-none false i k h = refl

-- ## Two tests at once
module _ {A : Type 0} (test test₁ : List A → A → Option ℕ) where
  first-wins : (k i : ℕ) (o : Option Fault) → ((f : Fault) → o ≡ some f → i ≤ f.row) → some (fault i k) ≡ earlier (some (fault i k)) o
  first-wins k i none h = refl
  first-wins k i (some f) h = rw (le-leb i f.row (h f refl))

  second-wins : (k i : ℕ) (o : Option Fault) → ((f : Fault) → o ≡ some f → i < f.row) → some (fault i k) ≡ earlier o (some (fault i k))
  second-wins k i none h = refl
  second-wins k i (some f) h = rw (lt-leb f.row i (h f refl))

  -- the first row that either finds: the earlier of the two, and of one row what the first test says
  pub first-of-two : (front l : List A) → first_fault (λ front a. or_else (test front a) (test₁ front a)) front l ≡ earlier (first_fault test front l) (first_fault test₁ front l)
  unfolding first_fault
  first-of-two front [] = refl
  first-of-two front (a ∷ l) = go (test front a) (test₁ front a) (first-of-two (front ++ (a ∷ [])) l)
    where
      both : List A → A → Option ℕ
      both front a = or_else (test front a) (test₁ front a)

      here : (test : List A → A → Option ℕ) (f : Fault) → first_fault test (front ++ (a ∷ [])) l ≡ some f → length front < f.row
      here test f h = let n = length-append front (a ∷ []) in let r = not-before test (front ++ (a ∷ [])) l f h in omega arith

      here_too : (o : Option ℕ) (f : Fault) → or_behind (length front) o (first_fault test₁ (front ++ (a ∷ [])) l) ≡ some f → length front ≤ f.row
      here_too (some k) f h = let e : fault (length front) k ≡ f = cc in let r = ap (λ (f : Fault). f.row) e in omega arith
      here_too none f h = let r = here test₁ f h in omega arith

      go : (o o₁ : Option ℕ) → first_fault both (front ++ (a ∷ [])) l ≡ earlier (first_fault test (front ++ (a ∷ [])) l) (first_fault test₁ (front ++ (a ∷ [])) l)
          → or_behind (length front) (or_else o o₁) (first_fault both (front ++ (a ∷ [])) l) ≡ earlier (or_behind (length front) o (first_fault test (front ++ (a ∷ [])) l)) (or_behind (length front) o₁ (first_fault test₁ (front ++ (a ∷ [])) l))
      go (some k) o₁ ih = first-wins k (length front) (or_behind (length front) o₁ (first_fault test₁ (front ++ (a ∷ [])) l)) (here_too o₁)
      go none (some k) ih = second-wins k (length front) (first_fault test (front ++ (a ∷ [])) l) (here test)
      go none none ih = ih

-- ## The statements of one kind
module _ (L : Lang) where
  open L use {Kind, Pay}

  module _ (k : Kind) {A : Type 0} (g : Pay k → A) (test : List A → A → Option ℕ) where
    -- behind p statements, q of them of this kind
    abbrev placed-from : (p q : ℕ) → List (S L) → Option Fault → Option Fault
    placed-from p q l none = none
    placed-from p q l (some f) = some (fault (p + the_place_of L k l (f.row - q)) f.number)

    abbrev tells : List (S L) → List A
    tells l = map g (all_of L k l)

    tells_more : (front : List (S L)) (x : S L) (o : Option (Pay k)) → as_kind L k x ≡ o → tells (front ++ (x ∷ [])) ≡ elim o [ some v ↦ tells front ++ (g v ∷ []) | none ↦ tells front ]
    tells_more front x (some v) q = ap (map g) (of_append L k front (x ∷ []) ∙ ap (◌++◌ (all_of L k front)) (all-some L k x [] v q)) ∙ map-append g (all_of L k front) (v ∷ [])
    tells_more front x none q = ap (map g) (of_append L k front (x ∷ []) ∙ ap (◌++◌ (all_of L k front)) (all_none L k x [] q) ∙ append-nil (all_of L k front))

    -- one statement more in front
    place_other : (x : S L) (l : List (S L)) (j : ℕ) → as_kind L k x ≡ none → the_place_of L k (x ∷ l) j ≡ suc (the_place_of L k l j)
    unfolding the_place_of
    place_other x l j q = rw q

    place-first : (x : S L) (l : List (S L)) (v : Pay k) (j : ℕ) → as_kind L k x ≡ some v → j ≡ 0 → the_place_of L k (x ∷ l) j ≡ 0
    unfolding the_place_of
    place-first x l v j q e = rw (e, q)

    place-next : (x : S L) (l : List (S L)) (v : Pay k) (i j : ℕ) → as_kind L k x ≡ some v → i ≡ suc j → the_place_of L k (x ∷ l) i ≡ suc (the_place_of L k l j)
    unfolding the_place_of
    place-next x l v i j q e = rw (e, q)

    past-other : (x : S L) (l : List (S L)) (p q : ℕ) (o : Option Fault) → as_kind L k x ≡ none → placed-from (p + 1) q l o ≡ placed-from p q (x ∷ l) o
    past-other x l p q none h = refl
    past-other x l p q (some f) h = ap (λ (i : ℕ). some (fault i f.number)) (let e = place_other x l (f.row - q) h in omega arith)

    past_one : (x : S L) (l : List (S L)) (v : Pay k) (p q : ℕ) (o : Option Fault) → as_kind L k x ≡ some v → ((f : Fault) → o ≡ some f → q + 1 ≤ f.row) → placed-from (p + 1) (q + 1) l o ≡ placed-from p q (x ∷ l) o
    past_one x l v p q none h b = refl
    past_one x l v p q (some f) h b =
        let c = b f refl in
        let r : f.row - q ≡ suc (f.row - (q + 1)) = omega arith in
        ap (λ (i : ℕ). some (fault i f.number)) (let e = place-next x l v (f.row - q) (f.row - (q + 1)) h r in omega arith)

    one_more : {B : Type 0} (l : List B) (b : B) → length (l ++ (b ∷ [])) ≡ length l + 1
    one_more l b = length-append l (b ∷ [])

    first-said-from : (front l : List (S L)) → first_fault (said L k g test) front l ≡ placed-from (length front) (length (tells front)) l (first_fault test (tells front) (tells l))
    unfolding first_fault
    first-said-from front [] = refl
    first-said-from front (x ∷ l) = go (as_kind L k x) refl (first-said-from (front ++ (x ∷ [])) l)
      where
        Behind : List A → Type 0
        Behind t = first_fault (said L k g test) (front ++ (x ∷ [])) l ≡ placed-from (length front + 1) (length t) l (first_fault test t (tells l))

        seen : (v : Pay k) (o : Option ℕ) → as_kind L k x ≡ some v → Behind (tells front ++ (g v ∷ []))
            → or_behind (length front) o (first_fault (said L k g test) (front ++ (x ∷ [])) l) ≡ placed-from (length front) (length (tells front)) (x ∷ l) (or_behind (length (tells front)) o (first_fault test (tells front ++ (g v ∷ [])) (tells l)))
        seen v (some n) q ih = ap (λ (i : ℕ). some (fault i n)) (let e = place-first x l v (length (tells front) - length (tells front)) q (omega arith) in omega arith)
        seen v none q ih =
            ih ∙ ap (λ (n : ℕ). placed-from (length front + 1) n l (first_fault test (tells front ++ (g v ∷ [])) (tells l))) (one_more (tells front) (g v))
            ∙ past_one x l v (length front) (length (tells front)) (first_fault test (tells front ++ (g v ∷ [])) (tells l)) q
            (λ f e. let n = one_more (tells front) (g v) in let b = not-before test (tells front ++ (g v ∷ [])) (tells l) f e in omega arith)

        go : (o : Option (Pay k)) → as_kind L k x ≡ o → first_fault (said L k g test) (front ++ (x ∷ [])) l ≡ placed-from (length (front ++ (x ∷ []))) (length (tells (front ++ (x ∷ [])))) l (first_fault test (tells (front ++ (x ∷ []))) (tells l))
            → or_behind (length front) (said L k g test front x) (first_fault (said L k g test) (front ++ (x ∷ [])) l) ≡ placed-from (length front) (length (tells front)) (x ∷ l) (first_fault test (tells front) (tells (x ∷ l)))
        go none q ih =
            let behind : Behind (tells front) = subst Behind (tells_more front x none q) (ih ∙ ap (λ (n : ℕ). placed-from n (length (tells (front ++ (x ∷ [])))) l (first_fault test (tells (front ++ (x ∷ []))) (tells l))) (one_more front x)) in
            rw (q, all_none L k x l q) (behind ∙ past-other x l (length front) (length (tells front)) (first_fault test (tells front) (tells l)) q)
        go (some v) q ih =
            let behind : Behind (tells front ++ (g v ∷ [])) = subst Behind (tells_more front x (some v) q) (ih ∙ ap (λ (n : ℕ). placed-from n (length (tells (front ++ (x ∷ [])))) l (first_fault test (tells (front ++ (x ∷ []))) (tells l))) (one_more front x)) in
            rw (q, all-some L k x l v q) (seen v (test (tells front) (g v)) q behind)

    -- the first statement of this kind at fault is that of the first row at fault
    pub first_said : (l : List (S L)) → first_fault (said L k g test) [] l ≡ placed L k l (first_fault test [] (map g (all_of L k l)))
    first_said l = first-said-from [] l ∙ go (first_fault test [] (map g (all_of L k l)))
      where
        go : (o : Option Fault) → placed-from 0 0 l o ≡ placed L k l o
        go none = refl
        go (some f) =
            let r : f.row - 0 ≡ f.row = omega arith in
            ap (λ (i : ℕ). some (fault i f.number)) (let e = ap (the_place_of L k l) r in omega arith)
