-- What the theorems ask of an MDF: what is permitted stays so with low values behind. Assumes nothing.
use mathlib.Core.Path.{◌≡◌, refl, sym, subst}
use mathlib.Core.List.{List, [], ◌∷◌, head-eq_of_cons-eq}
use mathlib.Core.Option.{Option, none}
use mathlib.Core.Bool.{true}
use Prim.Native.Nat.{ℕ, zero, suc}
use native.Mathlib.Omega.{arith}
use Rattle.terms.specs.Words.{Each}
use Rattle.terms.proofs.Tests.{nothing}
use Rattle.line.specs.Content.{Field}
use Rattle.number.proofs.House.{house-integer-one, house-integer-first}
use Rattle.word.specs.Number.{digit_first}
use Rattle.grammar.specs.Editions.{Edition, law_of}
use Rattle.grammar.specs.MissionStatements.{Kind, MDF_name_of, RNDF, format_version_of, creation_date_of, checkpoints, num_checkpoints, end_checkpoints, speed_limits, num_speed_limits, end_speed_limits, end_file_of, goal, limit}
use Rattle.grammar.specs.Forms.{tested}
use Rattle.grammar.specs.Machine.{lenient}
use Rattle.grammar.specs.MissionPlaces.{mdf, Base, limited, opts, due, name_due, RNDF_due, checkpoints_due, num_checkpoints_due, speed_limits_due, num_speed_limits_due, end_file_due, goal_due, limit_due}
use Rattle.grammar.specs.PlaceRows.{mission_kind_row}
use Rattle.grammar.proofs.FormLaws as Form
use Rattle.text.specs.MdfWords.{word_at, mdf_sorts, mdf_make, mdf_lexis}
use Rattle.text.specs.Judge.{an_integer, Vals}
use Rattle.text.specs.Said as Texts
use Rattle.law.specs.Network.{Line, SpellsField}
use Rattle.law.specs.Network as Law
use Rattle.law_spelling.proofs.Fields.{field_back}
use Rattle.law_faults.proofs.Sorts.{law-said}
use Rattle.law_columns.specs.Files.{mdf_low}
use Rattle.law_columns.proofs.Wrong.{Completes}
use Rattle.law_columns.proofs.LineColumns.{Lows}
use Rattle.law_columns.proofs.Starting.{SortOf}

-- an id goes on with the low minimum and the low maximum, which is no ceiling; so does every minimum
abbrev minimum : ℕ
minimum = (mdf_low limit).1.0

abbrev maximum : ℕ
maximum = (mdf_low limit).1.1.0

limit-low : Completes (an_integer ∷ an_integer ∷ an_integer ∷ []) (λ u. tested limited (record { id = u.0; minimum = u.1.0; maximum = u.1.1.0 })) (mdf_low limit)
limit-low = (
  (λ u t.
      let x = Form.pick limited (record { id = u.0; minimum = u.1.0; maximum = u.1.1.0 }) t in
      Form.thus (limited.fits (record { id = u.0; minimum = minimum; maximum = maximum })) (refl, record { id = x.1.id; minimum = omega arith; maximum = omega arith; in_order = λ h. omega arith })),
  λ v. (
    (λ u t.
        let x = Form.pick limited (record { id = v; minimum = u.0; maximum = u.1.0 }) t in
        Form.thus (limited.fits (record { id = v; minimum = u.0; maximum = maximum })) (refl, record { id = x.1.id; minimum = x.1.minimum; maximum = omega arith; in_order = λ h. omega arith })),
    λ a. ((λ u t. t), λ n. tt),
  ),
)

-- ## Every place
options-low : (b : Base) → Each (λ o. Completes (mdf_sorts o.on) (λ u. o.test (mdf_make o.on u)) (mdf_low o.on)) (opts Field b)
options-low name_due = tt
options-low RNDF_due = tt
options-low checkpoints_due = (((λ u t. t), λ v. tt), (((λ u t. t), λ v. tt), tt))
options-low num_checkpoints_due = tt
options-low speed_limits_due = tt
options-low num_speed_limits_due = tt
options-low end_file_due = tt
options-low (goal_due g) = tt
options-low (limit_due l) = tt

due-low : (b : Base) → Completes (mdf_sorts (due Field b).on) (λ u. (due Field b).test (mdf_make (due Field b).on u)) (mdf_low (due Field b).on)
due-low name_due = ((λ u t. t), λ v. tt)
due-low RNDF_due = ((λ u t. t), λ v. tt)
due-low checkpoints_due = tt
due-low num_checkpoints_due = ((λ u t. t), λ v. tt)
due-low (goal_due zero) = tt
due-low (goal_due (suc g)) = ((λ u t. t), λ v. tt)
due-low speed_limits_due = tt
due-low num_speed_limits_due = ((λ u t. t), λ v. tt)
due-low (limit_due zero) = tt
due-low (limit_due (suc l)) = limit-low
due-low end_file_due = tt

-- ## A goal's line and a limit's begin with a digit
integer-digit : (d : Edition) (f : Field) (n : ℕ) (x : Law.Said) → Law.numbers (n ∷ []) ≡ x → SpellsField (law_of d) f x → digit_first f.bytes ≡ true
integer-digit d f n x e h =
    let z : Texts.SpellsField f (Texts.integer n) = field_back d f (Texts.integer n) tt (subst (SpellsField (law_of d) f) (sym e) h) in
    rw (house-integer-one n f.bytes z) (house-integer-first n)

digits : (d : Edition) (k : Kind) → word_at (mission_kind_row k) ≡ none → (u : Vals (mdf_sorts k)) (x : Law.Said) (l : Line) → law-said (mdf_sorts k) u ≡ x ∷ l → (f : Field) → SpellsField (law_of d) f x → digit_first f.bytes ≡ true
digits d MDF_name_of e u x l q f h = nothing (sym e)
digits d RNDF e u x l q f h = nothing (sym e)
digits d format_version_of e u x l q f h = nothing (sym e)
digits d creation_date_of e u x l q f h = nothing (sym e)
digits d checkpoints e u x l q f h = nothing (sym e)
digits d num_checkpoints e u x l q f h = nothing (sym e)
digits d end_checkpoints e u x l q f h = nothing (sym e)
digits d speed_limits e u x l q f h = nothing (sym e)
digits d num_speed_limits e u x l q f h = nothing (sym e)
digits d end_speed_limits e u x l q f h = nothing (sym e)
digits d end_file_of e u x l q f h = nothing (sym e)
digits d goal e u x l q f h = integer-digit d f u.0 x (head-eq_of_cons-eq q) h
digits d limit e u x l q f h = integer-digit d f u.0 x (head-eq_of_cons-eq q) h

sorts-of : (d : Edition) (k : Kind) → Each (SortOf d) (mdf_sorts k)
sorts-of d MDF_name_of = (tt, tt)
sorts-of d RNDF = (tt, tt)
sorts-of d format_version_of = (tt, tt)
sorts-of d creation_date_of = (tt, tt)
sorts-of d checkpoints = tt
sorts-of d num_checkpoints = (tt, tt)
sorts-of d end_checkpoints = tt
sorts-of d speed_limits = tt
sorts-of d num_speed_limits = (tt, tt)
sorts-of d end_speed_limits = tt
sorts-of d end_file_of = tt
sorts-of d goal = (tt, tt)
sorts-of d limit = (tt, (tt, (tt, tt)))

pub mdf-lows : (d : Edition) → Lows d (lenient (mdf Field)) mdf_lexis mdf_low
mdf-lows d = record { options = options-low; owed = due-low; sorts = sorts-of d; digits = digits d }
