-- The form of a kind that may stand at a place is exactly what the place lets through of that kind. For every file. Assumes nothing.
use mathlib.Core.Path.{◌≡◌, refl, sym, ap, subst, ◌∙◌}
use mathlib.Core.List.{List, [], ◌∷◌, map}
use mathlib.Core.Option.{Option, none, some}
use mathlib.Core.Bool.{Bool, true, false, ◌&&◌}
use lib.Dec.{T}
use Rattle.terms.specs.Words.{Each}
use Rattle.terms.proofs.Tests.{nothing}
use Rattle.grammar.specs.Editions.{Edition}
use Rattle.grammar.specs.Language.{Lang, S, say}
use Rattle.grammar.specs.Machine.{next, judge, onto, Opt, lacks, opt_at, take, guard, Machine, over, inside, Place, enter, settle, step}
use Rattle.grammar.specs.Stands.{given, as_due, of_row_of, stands}
use Rattle.grammar.proofs.LanguageLaws.{as_same}
use Rattle.grammar.proofs.MachineLaws.{none_of, no-option, due-apart}
use Rattle.text.specs.Said as Old
use Rattle.law_columns.specs.Finding.{taken?}
use Rattle.expected_law.specs.Expected.{Form}
use Rattle.expected_exact.proofs.Shapes.{Fits}
use Rattle.expected_exact.proofs.Exact.{law-of-kind, FitRow, FitPlace}
use Rattle.expected_fields.specs.AtFields.{form_beside, form_of_kind}

module _ (ed : Edition) (L : Lang) (Line-of : (k : L.Kind) → L.Pay k → List Old.Said) where
  open L use {Kind, Pay, disc}

  -- ## An option that may stand
  record InRow (row : List (Opt Kind Pay)) (g : List Bool) (k : Kind) (form : Form) : Type 0 where
    test : Pay k → Bool
    fits : Fits ed (law-of-kind ed L Line-of k) test form
    flags : List Bool
    by : (v : Pay k) → opt_at L row g (say L k v) ≡ judge false (test v) flags

  judged-onto : (f t : Bool) (g : List Bool) → onto f (judge false t g) ≡ judge false t (f ∷ g)
  judged-onto f true g = refl
  judged-onto f false g = refl

  in_row : (row : List (Opt Kind Pay)) (g : List Bool) (forms : List Form) (k : Kind) (due : Form) → given L row g k ≡ some false → FitRow ed L Line-of row forms → InRow row g k (form_beside L row forms k due)
  in_row [] g forms k due e h = nothing e
  in_row (o ∷ row) [] forms k due e h = nothing e
  in_row (o ∷ row) (f ∷ g) [] k due e h = absurd h
  in_row (o ∷ row) (f ∷ g) (form ∷ forms) k due e h = go (disc k o.on) e (λ e. in_row row g forms k due e h.1)
    where
      here : (o.once && f) ≡ false → InRow (o ∷ row) (f ∷ g) o.on form
      here e = record {
        test = o.test;
        fits = h.0;
        flags = o.once ∷ g;
        by = λ v. ap (λ (x : Option (Pay o.on)). take L o f g x (opt_at L row g (say L o.on v))) (as_same L o.on v) ∙ ap (λ (b : Bool). judge b (o.test v) (o.once ∷ g)) e;
      }

      go : (d : Dec (k ≡ o.on)) → ◌≡◌ {A = Option Bool} (elim d as (λ x. Option Bool) [ yes e ↦ some (o.once && f) | no n ↦ given L row g k ]) (some false) → (given L row g k ≡ some false → InRow row g k (form_beside L row forms k due))
          → InRow (o ∷ row) (f ∷ g) k (elim d as (λ x. Form) [ yes e ↦ form | no n ↦ form_beside L row forms k due ])
      go (yes q) e ih =
          let z : (o.once && f) ≡ false = cc in
          subst (λ (k : Kind). InRow (o ∷ row) (f ∷ g) k form) (sym q) (here z)
      go (no n) e ih =
          let x = ih e in
          record {
            test = x.test;
            fits = x.fits;
            flags = f ∷ x.flags;
            by = λ v. ap (λ (y : Option (Pay o.on)). take L o f g y (opt_at L row g (say L k v))) (none_of L o.on (say L k v) n) ∙ ap (onto f) (x.by v) ∙ judged-onto f (x.test v) x.flags;
          }

  -- a kind that is no option has the due form
  pub due-beside : (row : List (Opt Kind Pay)) (forms : List Form) (k : Kind) (due : Form) → T (lacks L k row) → form_beside L row forms k due ≡ due
  due-beside [] forms k due t = refl
  due-beside (o ∷ row) [] k due t = refl
  due-beside (o ∷ row) (form ∷ forms) k due t = go (disc k o.on) t (due-beside row forms k due)
    where
      go : (d : Dec (k ≡ o.on)) → T (elim d as (λ x. Bool) [ yes e ↦ false | no n ↦ lacks L k row ]) → (T (lacks L k row) → form_beside L row forms k due ≡ due) → elim d as (λ x. Form) [ yes e ↦ form | no n ↦ form_beside L row forms k due ] ≡ due
      go (yes e) t ih = absurd t
      go (no n) t ih = ih t

  -- what holds of the due form and of every option's holds of the form of a kind
  pub of-form : (P : Form → Type 0) (row : List (Opt Kind Pay)) (forms : List Form) (k : Kind) (due : Form) → P due → Each P forms → P (form_beside L row forms k due)
  of-form P [] forms k due h each = h
  of-form P (o ∷ row) [] k due h each = h
  of-form P (o ∷ row) (form ∷ forms) k due h each = go (disc k o.on) (of-form P row forms k due h each.1)
    where
      go : (d : Dec (k ≡ o.on)) → P (form_beside L row forms k due) → P (elim d as (λ x. Form) [ yes e ↦ form | no n ↦ form_beside L row forms k due ])
      go (yes e) ih = each.0
      go (no n) ih = ih

  -- where the forms go by the kinds alone, so does the form of a kind that may stand
  option-by-kind : (F : Kind → Form) (row : List (Opt Kind Pay)) (g : List Bool) (k : Kind) (due : Form) (x : Bool) → given L row g k ≡ some x → form_beside L row (map (λ o. F o.on) row) k due ≡ F k
  option-by-kind F [] g k due x e = nothing e
  option-by-kind F (o ∷ row) [] k due x e = nothing e
  option-by-kind F (o ∷ row) (f ∷ g) k due x e = go (disc k o.on) e (option-by-kind F row g k due x)
    where
      go : (d : Dec (k ≡ o.on)) → ◌≡◌ {A = Option Bool} (elim d as (λ x. Option Bool) [ yes e ↦ some (o.once && f) | no n ↦ given L row g k ]) (some x) → (given L row g k ≡ some x → form_beside L row (map (λ o. F o.on) row) k due ≡ F k)
          → elim d as (λ x. Form) [ yes e ↦ F o.on | no n ↦ form_beside L row (map (λ o. F o.on) row) k due ] ≡ F k
      go (yes q) e ih = ap F (sym q)
      go (no n) e ih = ih e

  -- ## At a place
  module _ (A : Machine L) (options : A.Base → List Form) (due : A.Base → Form) where
    -- the form is exactly what the place lets through of the kind
    pub record Here (p : Place A) (k : Kind) : Type 0 where
      pub test : Pay k → Bool
      pub fits : Fits ed (law-of-kind ed L Line-of k) test (form_of_kind A options due p k)
      pub by : (v : Pay k) → taken? (step A p (say L k v)) ≡ test v

    pub here-is : (p : Place A) → FitPlace ed L Line-of A options due p → (k : Kind) → stands A p k ≡ none → Here p k
    unfolding stands step guard form_of_kind
    here-is over fit k h = nothing (sym h)
    here-is (inside b g) fit k h = go (given L (A.opts b) g k) refl (disc k (A.due b).on) h
      where
        judged : (t : Bool) (f : List Bool) (s : S L) → taken? (settle A b g (judge false t f) s) ≡ t
        judged true f s = refl
        judged false f s = refl

        guarded : (t e : Bool) (q : Place A) → taken? (guard t 9 (guard e 25 (next q))) ≡ t
        guarded true true q = refl
        guarded true false q = refl
        guarded false e q = refl

        as-due : Here (inside b g) (A.due b).on
        as-due = record {
          test = (A.due b).test;
          fits = subst (Fits ed (law-of-kind ed L Line-of (A.due b).on) (A.due b).test) (sym (due-beside (A.opts b) (options b) (A.due b).on (due b) (due-apart A b))) fit.owed;
          by = λ v. rw (no-option A (A.opts b) g (A.due b).on v (due-apart A b), as_same L (A.due b).on v) (guarded ((A.due b).test v) (A.ready b g) (enter A ((A.due b).then v)));
        }

        go : (x : Option Bool) → given L (A.opts b) g k ≡ x → (d : Dec (k ≡ (A.due b).on)) → of_row_of x (as_due d) ≡ none → Here (inside b g) k
        go (some true) q d h = nothing (sym h)
        go (some false) q d h =
            let x = in_row (A.opts b) g (options b) k (due b) q fit.row in
            record { test = x.test; fits = x.fits; by = λ v. rw (x.by v) (judged (x.test v) x.flags (say L k v)) }
        go none q (yes i) h = subst (Here (inside b g)) (sym i) as-due
        go none q (no n) h = nothing (sym h)

    pub form-by-kinds : (F : Kind → Form) (b : A.Base) (g : List Bool) → due b ≡ F (A.due b).on → options b ≡ map (λ o. F o.on) (A.opts b) → (k : Kind) → stands A (inside b g) k ≡ none → form_of_kind A options due (inside b g) k ≡ F k
    unfolding stands form_of_kind
    form-by-kinds F b g e q k h = ap (λ (forms : List Form). form_beside L (A.opts b) forms k (due b)) q ∙ go (given L (A.opts b) g k) refl (disc k (A.due b).on) h
      where
        go : (x : Option Bool) → given L (A.opts b) g k ≡ x → (d : Dec (k ≡ (A.due b).on)) → of_row_of x (as_due d) ≡ none → form_beside L (A.opts b) (map (λ o. F o.on) (A.opts b)) k (due b) ≡ F k
        go (some x) i d h = option-by-kind F (A.opts b) g k (due b) x i
        go none i (yes j) h = subst (λ (k : Kind). form_beside L (A.opts b) (map (λ o. F o.on) (A.opts b)) k (due b) ≡ F k) (sym j) (due-beside (A.opts b) (map (λ o. F o.on) (A.opts b)) (A.due b).on (due b) (due-apart A b) ∙ e)
        go none i (no n) h = nothing (sym h)
