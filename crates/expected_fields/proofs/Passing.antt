-- The fields before one pass exactly if some values that pass begin with them; and where the first field stands that is not of its kind. Over values alone: no place. Assumes nothing.
use mathlib.Core.Path.{◌≡◌, refl, sym, ap, subst}
use mathlib.Core.List.{List, [], ◌∷◌, ◌++◌, map}
use mathlib.Core.Option.{Option, none, some}
use mathlib.Core.Bool.{Bool, true, false, ◌&&◌}
use Prim.Native.Nat.{ℕ, suc}
use lib.ListN.{length}
use lib.Dec.{T}
use lib.Ieee.Fits.{and_l, and_r}
use Rattle.terms.specs.Ascii.{Bytes}
use Rattle.terms.specs.Words.{Each}
use Rattle.line.specs.Content.{Field}
use Rattle.grammar.specs.Editions.{Edition, law_of}
use Rattle.grammar.specs.Language.{Lang}
use Rattle.grammar.specs.Machine.{Machine}
use Rattle.text.specs.Judge.{Sort, a_name, an_integer, a_pair, a_triple, a_coordinate, a_boundary, Val, read, Vals, Lexis, args}
use Rattle.text.proofs.FieldReading.{says}
use Rattle.law.specs.Network.{word}
use Rattle.law.specs.Faults.{kind_of_field, FirstMisspelt, here, further}
use Rattle.law_spelling.specs.LineOf.{said_of, Of}
use Rattle.law_faults.proofs.Sorts.{law-said, law-front}
use Rattle.law_faults.proofs.Misspelt.{kind-read, read-kind}
use Rattle.law_columns.specs.Finding.{on_read, wrong_at}
use Rattle.law_columns.proofs.Wrong.{Spelled, Completes}
use Rattle.law_columns.proofs.Starting.{SortOf}
use Rattle.expected_fields.specs.AtFields.{when_read, passes}

-- ## Passing
both_so : (a b : Bool) → T a → T b → T (a && b)
both_so true b s t = t
both_so false b s t = absurd s

pub passes-to : (ss : List Sort) (test : Vals ss → Bool) (low u₀ : Vals ss) → T (test u₀) → (fs gs : List Field) → T (passes ss test low (length fs) (fs ++ gs)) → (u : Vals ss) × T (test u) × Spelled ss fs u
unfolding passes
passes-to ss test low u₀ t [] gs h = (u₀, t, tt)
passes-to [] test low u₀ t (f ∷ fs) gs h = absurd h
passes-to (s ∷ ss) test low u₀ t (f ∷ fs) gs h = go (read s f) refl h (λ v t h. passes-to ss (λ u. test (v, u)) low.1 low.1 t fs gs h)
  where
    go : (x : Option (Val s)) → read s f ≡ x → T (when_read x (λ v. test (v, low.1) && passes ss (λ u. test (v, u)) low.1 (length fs) (fs ++ gs)))
        → ((v : Val s) → T (test (v, low.1)) → T (passes ss (λ u. test (v, u)) low.1 (length fs) (fs ++ gs)) → (u : Vals ss) × T (test (v, u)) × Spelled ss fs u) → (u : Vals (s ∷ ss)) × T (test u) × Spelled (s ∷ ss) (f ∷ fs) u
    go none q h ih = absurd h
    go (some v) q h ih =
        let a = test (v, low.1) in
        let b = passes ss (λ u. test (v, u)) low.1 (length fs) (fs ++ gs) in
        let x = ih v (and_l a b h) (and_r a b h) in
        ((v, x.0), x.1, (q, x.2))

pub passes-back : (ss : List Sort) (test : Vals ss → Bool) (low : Vals ss) → Completes ss test low → (u : Vals ss) → T (test u) → (fs gs : List Field) → Spelled ss fs u → T (passes ss test low (length fs) (fs ++ gs))
unfolding passes
passes-back ss test low c u t [] gs h = tt
passes-back [] test low c u t (f ∷ fs) gs h = absurd h
passes-back (s ∷ ss) test low c u t (f ∷ fs) gs h =
    let ih = passes-back ss (λ w. test (u.0, w)) low.1 (c.1 u.0) u.1 t fs gs h.1 in
    rw h.0 (both_so (test (u.0, low.1)) (passes ss (λ w. test (u.0, w)) low.1 (length fs) (fs ++ gs)) (c.0 u t) ih)

-- ## The first field that is not of its kind
says_of : (e : Edition) (s : Sort) → SortOf e s → (v : Val s) → Of e (says s v)
says_of e a_name h v = tt
says_of e an_integer h v = tt
says_of e a_pair h v = tt
says_of e a_triple h v = tt
says_of e a_coordinate h v = tt
says_of e (a_boundary d) h v = h

-- a field, with so many before it
pub record FieldBehind (fs : List Field) (i : ℕ) (g : Field) : Type 0 where
  pub left : List Field
  pub right : List Field
  pub is : fs ≡ left ++ (g ∷ right)
  pub many : length left ≡ i

here-at : (g : Field) (fs : List Field) → FieldBehind (g ∷ fs) 0 g
here-at g fs = record { left = []; right = fs; is = refl; many = refl }

later-at : (f : Field) (fs : List Field) (i : ℕ) (g : Field) → FieldBehind fs i g → FieldBehind (f ∷ fs) (suc i) g
later-at f fs i g h = record { left = f ∷ h.left; right = h.right; is = ap (◌∷◌ f) h.is; many = ap suc h.many }

misspelt-at : (ed : Edition) (ss : List Sort) → Each (SortOf ed) ss → (low w : Vals ss) {fs : List Field} {g : Field} → FirstMisspelt (law_of ed) fs (map kind_of_field (law-said ss w)) g → FieldBehind fs (wrong_at ss (λ u. true) low fs) g
unfolding wrong_at
misspelt-at ed (s ∷ []) o low w (here {g = g} {fs = fs} n) = here-at g fs
misspelt-at ed (s ∷ z ∷ ss) o low w (here {g = f} {fs = fs} n) = go (read s f) refl
  where
    go : (x : Option (Val s)) → read s f ≡ x → FieldBehind (f ∷ fs) (on_read x (λ v. suc (wrong_at (z ∷ ss) (λ u. true) low.1 fs))) f
    go none q = here-at f fs
    go (some u) q = let y = read-kind ed s w.0 (says_of ed s o.0 w.0) f u q in absurd (n (said_of (says s u)) y.0 y.1)
misspelt-at ed (s ∷ z ∷ ss) o low w (further {f = f} {g = g} {fs = fs} x k h m) =
    let y = kind-read ed s w.0 (says_of ed s o.0 w.0) f x k h in
    let i = wrong_at (z ∷ ss) (λ u. true) low.1 fs in
    subst (λ (i : ℕ). FieldBehind (f ∷ fs) i g) (sym (ap (λ (o : Option (Val s)). on_read o (λ v. suc (wrong_at (z ∷ ss) (λ u. true) low.1 fs))) y.1)) (later-at f fs i g (misspelt-at ed (z ∷ ss) o.1 low.1 w.1 m))
misspelt-at ed [] o low w {fs = fs} {g = g} x'' = elim x'' [ ]
misspelt-at ed (s ∷ []) o low w {g = g} (further {f = f} {fs = fs} x k h m) = elim m [ ]

-- also behind the keyword, where there is one
pub misspelt-led : (ed : Edition) {L : Lang} (A : Machine L) (X : Lexis L) (ss : List Sort) → Each (SortOf ed) ss → (low w : Vals ss) (o : Option Bytes) {f : Field} {fs : List Field} {g : Field} → ((b : Bytes) → o ≡ some b → f.bytes ≡ b)
    → FirstMisspelt (law_of ed) (f ∷ fs) (map kind_of_field (law-front o ++ law-said ss w)) g → FieldBehind (args A X o f fs) (wrong_at ss (λ u. true) low (args A X o f fs)) g
misspelt-led ed A X ss of low w none h m = misspelt-at ed ss of low w m
misspelt-led ed A X ss of low w (some b) h (here n) = absurd (n (word b) refl (h b refl))
misspelt-led ed A X ss of low w (some b) h (further x k j m) = misspelt-at ed ss of low w m
