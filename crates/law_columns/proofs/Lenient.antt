-- The column of a line is the same where no option has to be given. For every file. Assumes nothing.
use mathlib.Core.Path.{◌≡◌, refl, sym, ap, ◌∙◌}
use mathlib.Core.List.{List, [], ◌∷◌}
use mathlib.Core.Option.{Option, none, some}
use mathlib.Core.Bool.{Bool, true, ◌||◌}
use mathlib.Core.Logic.{◌⊎◌, inl, inr}
use Prim.Native.Nat.{ℕ, suc}
use lib.ListN.{length}
use lib.Dec.{eqb}
use Rattle.terms.specs.Ascii.{Bytes}
use Rattle.terms.specs.Words.{pick}
use Rattle.scan.specs.Reach.{up_to}
use Rattle.line.specs.Content.{Field}
use Rattle.line.specs.Lines.{drop_cr}
use Rattle.line.specs.Forms.{opens, outer_of, fields_at}
use Rattle.grammar.specs.Language.{Lang, S, say}
use Rattle.grammar.specs.Machine.{Out, next, refuse, Machine, lenient, Place, step}
use Rattle.grammar.specs.Stands.{stands}
use Rattle.grammar.proofs.StandLaws.{asked, stands-lenient}
use Rattle.text.specs.Judge.{Vals, Lexis, kind_at, args}
use Rattle.law_faults.proofs.Unmarked.{kind-same}
use Rattle.law_columns.specs.Finding.{bad_at_of, taken?, listed_at, start_of, behind_word, wrong_at, tests, unless_refused, kind_field_of, field_at, fields_column_of, column_of}

module _ {L : Lang} (A : Machine L) where
  -- what is refused with 25 alone is taken there
  pub taken-same : (p : Place A) (s : S L) → taken? (step A p s) ≡ taken? (step (lenient A) p s)
  taken-same p s = go (asked A p s)
    where
      go : (step A p s ≡ step (lenient A) p s) ⊎ ((step A p s ≡ refuse 25) × (q : Place A) × (step (lenient A) p s ≡ next q)) → taken? (step A p s) ≡ taken? (step (lenient A) p s)
      go (inl e) = ap taken? e
      go (inr (e, q, n)) = ap taken? e ∙ sym (ap taken? n)

  module _ (X : Lexis L) (low : (k : L.Kind) → Vals (X.sorts k)) where
    open L use {Kind}
    open X use {keyword, sorts, make}

    tests_same : (p : Place A) (k : Kind) (n : ℕ) → tests A X low p k n ≡ tests (lenient A) X low p k n
    tests_same p k n = λ i u. pick (eqb n 8) true (taken-same p (say L k (make k u)) i)

    kind-field-same : (p : Place A) (n : ℕ) (o : Option Kind) (f : Field) (fs : List Field) → kind_field_of A X low p n o f fs ≡ kind_field_of (lenient A) X low p n o f fs
    kind-field-same p n none f fs = refl
    kind-field-same p n (some k) f fs = λ i.
        let values = args A X (keyword k) f fs in
        unless_refused A X low (sym (stands-lenient A p k) i) (pick (eqb (length values) (length (sorts k))) (behind_word (keyword k) (wrong_at (sorts k) (tests_same p k n i) (low k) values)) 0)

    field-same : (p : Place A) (n : ℕ) (f : Field) (fs : List Field) → field_at A X low p n f fs ≡ field_at (lenient A) X low p n f fs
    unfolding field_at
    field-same p n f fs =
        ap (λ (x : ℕ). pick (eqb n 8 || eqb n 9) x (listed_at n))
        (kind-field-same p n (kind_at A X p f) f fs ∙ ap (λ (o : Option Kind). kind_field_of (lenient A) X low p n o f fs) (sym (kind-same A X p f)))

    fields-same : (p : Place A) (n : ℕ) (fs : List Field) → fields_column_of A X low p n fs ≡ fields_column_of (lenient A) X low p n fs
    fields-same p n [] = refl
    fields-same p n (f ∷ fs) = ap (λ (i : ℕ). suc (start_of i (f ∷ fs))) (field-same p n f fs)

    pub column-same : (p : Place A) (n : ℕ) (line : Bytes) → column_of A X low p n line ≡ column_of (lenient A) X low p n line
    unfolding column_of
    column-same p n line = ap (λ (x : ℕ). pick (eqb n 2) 513 (pick (eqb n 3) (suc (up_to opens (drop_cr line))) (pick (eqb n 4) (suc (bad_at_of (drop_cr line))) x))) (fields-same p n (fields_at 0 (outer_of (drop_cr line))))
