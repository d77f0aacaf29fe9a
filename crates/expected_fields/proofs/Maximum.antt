-- The words that are told of a field of an MDF's line: of a limit's maximum by the id and the minimum before it, of every other field by its item alone. Assumes nothing.
use mathlib.Core.Path.{◌≡◌, refl, sym, ap, subst, ◌∙◌}
use mathlib.Core.List.{List, [], ◌∷◌}
use mathlib.Core.Option.{Option, none, some}
use mathlib.Core.Bool.{Bool, true, false, ◌&&◌}
use Prim.Native.Nat.{ℕ, zero, suc, ◌≤◌, ◌<◌}
use native.Mathlib.Omega.{arith}
use borrow.Author.Tests.{ne_eqb}
use lib.ListN.{length}
use lib.Dec.{T}
use Rattle.terms.specs.Words.{pick, Each}
use Rattle.terms.proofs.Tests.{nothing}
use Rattle.line.specs.Content.{Field}
use Rattle.grammar.specs.Editions.{march}
use Rattle.grammar.specs.Forms.{tested}
use Rattle.grammar.specs.MissionStatements as Mdf
use Rattle.grammar.specs.Machine.{next, guard, over, inside, Place, step}
use Rattle.grammar.specs.MissionPlaces.{mdf, limited}
use Rattle.grammar.specs.MissionPlaces as M-at
use Rattle.grammar.specs.Stands.{as_due, stands}
use Rattle.grammar.proofs.FormLaws as By
use Rattle.text.specs.Judge.{an_integer, read, Vals}
use Rattle.text.specs.MdfLines.{the_mdf_line_of}
use Rattle.text.specs.MdfWords.{mdf_lexis}
use Rattle.law_columns.specs.Finding.{taken?, takes}
use Rattle.law_columns.specs.Files.{mdf_low}
use Rattle.expected_law.specs.Expected.{Form, field}
use Rattle.expected_law.specs.Items.{limit_form}
use Rattle.expected_law.specs.Telling.{told}
use Rattle.expected_exact.specs.Listed.{mdf_options, mdf_due}
use Rattle.expected_exact.proofs.Live.{Alive}
use Rattle.expected_fields.specs.AtFields.{form_of_kind, item_at_of, when_read, passes, told_field, permitted, field_told}
use Rattle.expected_fields.specs.FileFields.{mdf_form, maximum_told, maximum_behind, mdf_field_told}
use Rattle.expected_fields.proofs.Here.{of-form}
use Rattle.expected_fields.proofs.Words.{alive-at, told_same}

-- ## A limit's maximum
abbrev behind-minimum : ℕ → ℕ → Bool
behind-minimum i m = tested limited (record { id = i; minimum = m; maximum = 0 })

no-minimum : (i m : ℕ) → T (behind-minimum i m) → T (behind-minimum i 0)
no-minimum i m t = By.pass limited (record { id = i; minimum = 0; maximum = 0 }) (record { id = (By.pick limited (record { id = i; minimum = m; maximum = 0 }) t).1.id; minimum = omega arith; maximum = omega arith; in_order = λ h. omega arith })

both-tests : (a b : Bool) → (T b → T a) → (a && (b && true)) ≡ b
both-tests true true h = refl
both-tests true false h = refl
both-tests false true h = absurd (h tt)
both-tests false false h = refl

and_no : (a : Bool) → (a && false) ≡ false
and_no true = refl
and_no false = refl

abbrev Test : Type 0
Test = Vals (an_integer ∷ an_integer ∷ an_integer ∷ []) → Bool

module _ (test : Test) (is : (i m : ℕ) → test (i, (m, (0, tt))) ≡ behind-minimum i m) where
  abbrev by-test : List Field → Bool
  by-test fs = passes (an_integer ∷ an_integer ∷ an_integer ∷ []) test (mdf_low Mdf.limit) 2 fs

  chosen : (b : Bool) (f g : Field) (fs : List Field) → told_field limit_form b 2 (f ∷ g ∷ fs) ≡ pick b (told_field limit_form true 2 (f ∷ g ∷ fs)) (told_field limit_form false 2 [])
  chosen true f g fs = refl
  chosen false f g fs = refl

  maximum-is : (fs : List Field) → told_field limit_form (by-test fs) 2 fs ≡ maximum_behind fs
  unfolding passes item_at_of
  maximum-is [] = refl
  maximum-is (f ∷ []) = go (read an_integer f)
    where
      go : (x : Option ℕ) → told_field limit_form (when_read x (λ i. test (i, (0, (0, tt))) && false)) 2 (f ∷ []) ≡ maximum_behind (f ∷ [])
      go none = refl
      go (some i) = ap (λ (b : Bool). told_field limit_form b 2 (f ∷ [])) (and_no (test (i, (0, (0, tt)))))
  maximum-is (f ∷ g ∷ fs) = go (read an_integer f) (read an_integer g)
    where
      go : (x y : Option ℕ) → told_field limit_form (when_read x (λ i. test (i, (0, (0, tt))) && when_read y (λ m. test (i, (m, (0, tt))) && true))) 2 (f ∷ g ∷ fs) ≡ maximum_told g.bytes x y
      go none y = refl
      go (some i) none = ap (λ (b : Bool). told_field limit_form b 2 (f ∷ g ∷ fs)) (and_no (test (i, (0, (0, tt)))))
      go (some i) (some m) =
          let b : (test (i, (0, (0, tt))) && (test (i, (m, (0, tt))) && true)) ≡ behind-minimum i m = (λ j. is i 0 j && (is i m j && true)) ∙ both-tests (behind-minimum i 0) (behind-minimum i m) (no-minimum i m) in
          ap (λ (b : Bool). told_field limit_form b 2 (f ∷ g ∷ fs)) b ∙ chosen (behind-minimum i m) f g fs

-- where a limit is due, its test is asked
limit-takes : (l : ℕ) (g : List Bool) (i m : ℕ) → takes (mdf Field) mdf_lexis mdf_low (inside (M-at.limit_due (suc l)) g) Mdf.limit (i, (m, (0, tt))) ≡ behind-minimum i m
unfolding step guard
limit-takes l g i m = go (behind-minimum i m)
  where
    go : (t : Bool) → taken? (guard {P = Place (mdf Field)} t 9 (guard true 25 (next (inside (M-at.limit_due l) [])))) ≡ t
    go true = refl
    go false = refl

the_limit_words_of : (l : ℕ) (g : List Bool) (i : ℕ) → i < 3 → (f : Field) (fs : List Field) → told (mdf_field_told limit_form i (f ∷ fs)) ≡ told (told_field limit_form (permitted (mdf Field) mdf_lexis mdf_low (inside (M-at.limit_due (suc l)) g) Mdf.limit i f fs) i (f ∷ fs))
unfolding item_at_of
the_limit_words_of l g zero h f fs = told_same limit_form 0 tt (permitted (mdf Field) mdf_lexis mdf_low (inside (M-at.limit_due (suc l)) g) Mdf.limit 0 f fs) (f ∷ fs)
the_limit_words_of l g (suc zero) h f fs = told_same limit_form 1 tt (permitted (mdf Field) mdf_lexis mdf_low (inside (M-at.limit_due (suc l)) g) Mdf.limit 1 f fs) (f ∷ fs)
the_limit_words_of l g (suc (suc zero)) h f fs = ap told (sym (maximum-is (takes (mdf Field) mdf_lexis mdf_low (inside (M-at.limit_due (suc l)) g) Mdf.limit) (limit-takes l g) (f ∷ fs)))
the_limit_words_of l g (suc (suc (suc i))) h f fs = absurd (omega arith)

-- ## Every other form is of two live items at most
abbrev Short : Form → Type 0
Short form = Each Alive form × (length form ≤ 2)

short-words : (form : Form) → Short form → (i : ℕ) → i < length form → (b : Bool) (fs : List Field) → told (mdf_field_told form i fs) ≡ told (told_field form b i fs)
short-words form h i less b fs = ap (λ (x : Bool). told (pick x (maximum_behind fs) (field [] (item_at_of i form)))) (ne_eqb i 2 (λ e. omega (arith, h.1))) ∙ told_same form i (alive-at form h.0 i) b fs

short-options : (b : M-at.Base) → Each Short (mdf_options b)
short-options M-at.name_due = tt
short-options M-at.RNDF_due = tt
short-options M-at.checkpoints_due = (((tt, (tt, tt)), omega arith), (((tt, (tt, tt)), omega arith), tt))
short-options M-at.num_checkpoints_due = tt
short-options M-at.speed_limits_due = tt
short-options M-at.num_speed_limits_due = tt
short-options M-at.end_file_due = tt
short-options (M-at.goal_due g) = tt
short-options (M-at.limit_due l) = tt

abbrev WordsAt : M-at.Base → Type 0
WordsAt b = (g : List Bool) (k : Mdf.Kind) → stands (mdf Field) (inside b g) k ≡ none → (i : ℕ) → i < length (mdf_form (inside b g) k) → (f : Field) (fs : List Field) → told (mdf_field_told (mdf_form (inside b g) k) i (f ∷ fs)) ≡ told (field_told (mdf Field) mdf_lexis mdf_low mdf_options mdf_due (inside b g) k i f fs)

short-at : (b : M-at.Base) → Short (mdf_due b) → WordsAt b
unfolding field_told form_of_kind
short-at b h g k s i less f fs = short-words (mdf_form (inside b g) k) (of-form march (Mdf.orders Field) the_mdf_line_of Short (M-at.opts Field b) (mdf_options b) k (mdf_due b) h (short-options b)) i less (permitted (mdf Field) mdf_lexis mdf_low (inside b g) k i f fs) (f ∷ fs)

limit-at : (l : ℕ) → WordsAt (M-at.limit_due (suc l))
unfolding field_told form_of_kind stands
limit-at l g k s i less f fs = go ((Mdf.orders Field).disc k Mdf.limit) s
  where
    go : (d : Dec (k ≡ Mdf.limit)) → as_due d ≡ none → told (mdf_field_told limit_form i (f ∷ fs)) ≡ told (told_field limit_form (permitted (mdf Field) mdf_lexis mdf_low (inside (M-at.limit_due (suc l)) g) k i f fs) i (f ∷ fs))
    go (yes q) s = subst (λ (k : Mdf.Kind). told (mdf_field_told limit_form i (f ∷ fs)) ≡ told (told_field limit_form (permitted (mdf Field) mdf_lexis mdf_low (inside (M-at.limit_due (suc l)) g) k i f fs) i (f ∷ fs))) (sym q) (the_limit_words_of l g i less f fs)
    go (no n) s = nothing (sym s)

words_of : (b : M-at.Base) → WordsAt b
words_of M-at.name_due = short-at M-at.name_due ((tt, (tt, tt)), omega arith)
words_of M-at.RNDF_due = short-at M-at.RNDF_due ((tt, (tt, tt)), omega arith)
words_of M-at.checkpoints_due = short-at M-at.checkpoints_due ((tt, tt), omega arith)
words_of M-at.num_checkpoints_due = short-at M-at.num_checkpoints_due ((tt, ((omega arith, tt), tt)), omega arith)
words_of M-at.speed_limits_due = short-at M-at.speed_limits_due ((tt, tt), omega arith)
words_of M-at.num_speed_limits_due = short-at M-at.num_speed_limits_due ((tt, ((omega arith, tt), tt)), omega arith)
words_of M-at.end_file_due = short-at M-at.end_file_due ((tt, tt), omega arith)
words_of (M-at.goal_due zero) = short-at (M-at.goal_due zero) ((tt, tt), omega arith)
words_of (M-at.goal_due (suc g)) = short-at (M-at.goal_due (suc g)) (((omega arith, tt), tt), omega arith)
words_of (M-at.limit_due zero) = short-at (M-at.limit_due zero) ((tt, tt), omega arith)
words_of (M-at.limit_due (suc l)) = limit-at l

pub words_in : (p : Place (mdf Field)) (k : Mdf.Kind) → stands (mdf Field) p k ≡ none → (i : ℕ) → i < length (mdf_form p k) → (f : Field) (fs : List Field) → told (mdf_field_told (mdf_form p k) i (f ∷ fs)) ≡ told (field_told (mdf Field) mdf_lexis mdf_low mdf_options mdf_due p k i f fs)
unfolding stands
words_in over k s i less f fs = nothing (sym s)
words_in (inside b g) k s i less f fs = words_of b g k s i less f fs
