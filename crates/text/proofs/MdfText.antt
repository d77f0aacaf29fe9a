-- The MDF's words, and a line that leads on from each of its places. Assumes nothing.
use mathlib.Core.Path.{◌≡◌, refl, sym, ◌∙◌}
use mathlib.Core.List.{List, [], ◌∷◌, ◌++◌}
use mathlib.Core.Option.{Option, none, some}
use mathlib.Core.Bool.{Bool, true}
use Prim.Native.Nat.{ℕ, zero, suc, ◌≤◌, ◌<◌}
use native.Mathlib.Omega.{arith}
use lib.ListN.{length, get_or}
use lib.Dec.{T, ltb→lt}
use Rattle.terms.specs.Ascii.{ascii}
use Rattle.terms.proofs.Tests.{nothing}
use Rattle.terms.proofs.Lists.{get_d-inside}
use Rattle.line.specs.Content.{Field, at, IsField}
use Rattle.number.proofs.House.{house-integer-one, house-integer-first}
use Rattle.word.specs.Keywords.{mdf_keywords}
use Rattle.word.specs.Number.{digit_first}
use Rattle.word.proofs.Keywords.{mdf-length, mdf-differ, mdf-word-field, mdf-word-no-digit}
use Rattle.grammar.specs.MissionStatements.{Kind, Says, orders, MDF_name_of, RNDF, format_version_of, creation_date_of, checkpoints, num_checkpoints, end_checkpoints, speed_limits, num_speed_limits, end_speed_limits, end_file_of, goal, limit}
use Rattle.grammar.specs.MissionPlaces.{mdf, Base, opts, due, name_due, RNDF_due, checkpoints_due, num_checkpoints_due, goal_due, speed_limits_due, num_speed_limits_due, limit_due, end_file_due}
use Rattle.grammar.specs.PlaceRows.{mission_kinds, mission_kind_row}
use Rattle.grammar.proofs.MdfTable.{coded, short}
use Rattle.grammar.proofs.Keeping.{GoodNext}
use Rattle.grammar.proofs.MissionReading as Net
use Rattle.text.specs.Said.{Said, integer, SpellFields}
use Rattle.text.specs.MdfLines.{the_mdf_line_of}
use Rattle.text.specs.HouseLine.{house_field}
use Rattle.text.specs.Judge.{Vals}
use Rattle.text.specs.MdfWords.{word_at, mdf_sorts, mdf_make, mdf_lexis}
use Rattle.text.proofs.FieldReading.{said}
use Rattle.text.proofs.Telling.{in-front, worded, Lawful}
use Rattle.text.proofs.TextReading.{Leaves, Prepared, prepared}
use Rattle.text.proofs.HouseLines.{short-field}
use Rattle.text.proofs.KeywordRows.{Rowed, lookup_right, lookup_only, no_digit}
use Rattle.text.proofs.Leaving.{x, by_name, By}
use Rattle.text.proofs.Leaving as Leaving

-- ## The words
abbrev pub mdf-parts : (k : Kind) → Says Field k → Vals (mdf_sorts k)
mdf-parts MDF_name_of v = (v, tt)
mdf-parts RNDF v = (v, tt)
mdf-parts format_version_of v = (v, tt)
mdf-parts creation_date_of v = (v, tt)
mdf-parts checkpoints v = tt
mdf-parts num_checkpoints v = (v, tt)
mdf-parts end_checkpoints v = tt
mdf-parts speed_limits v = tt
mdf-parts num_speed_limits v = (v, tt)
mdf-parts end_speed_limits v = tt
mdf-parts end_file_of v = tt
mdf-parts goal v = (v, tt)
mdf-parts limit v = (v.id, (v.minimum, (v.maximum, tt)))

pub mdf-made : (k : Kind) (v : Says Field k) → mdf_make k (mdf-parts k v) ≡ v
mdf-made MDF_name_of v = refl
mdf-made RNDF v = refl
mdf-made format_version_of v = refl
mdf-made creation_date_of v = refl
mdf-made checkpoints v = refl
mdf-made num_checkpoints v = refl
mdf-made end_checkpoints v = refl
mdf-made speed_limits v = refl
mdf-made num_speed_limits v = refl
mdf-made end_speed_limits v = refl
mdf-made end_file_of v = refl
mdf-made goal v = refl
mdf-made limit v = refl

pub mdf-line-made : (k : Kind) (w : Vals (mdf_sorts k)) → the_mdf_line_of k (mdf_make k w) ≡ in-front (word_at (mission_kind_row k)) ++ said (mdf_sorts k) w
unfolding the_mdf_line_of mdf_keywords
mdf-line-made MDF_name_of w = refl
mdf-line-made RNDF w = refl
mdf-line-made format_version_of w = refl
mdf-line-made creation_date_of w = refl
mdf-line-made checkpoints w = refl
mdf-line-made num_checkpoints w = refl
mdf-line-made end_checkpoints w = refl
mdf-line-made speed_limits w = refl
mdf-line-made num_speed_limits w = refl
mdf-line-made end_speed_limits w = refl
mdf-line-made end_file_of w = refl
mdf-line-made goal w = refl
mdf-line-made limit w = refl

rowed : Rowed 11 mdf_keywords mission_kinds mission_kind_row limit
rowed = record { many = mdf-length; differ = mdf-differ; first = mdf-word-no-digit; back = refl; coded = λ k. get_d-inside mission_kinds (mission_kind_row k) limit MDF_name_of (ltb→lt (mission_kind_row k) (length mission_kinds) (short k)) ∙ coded k }

-- a line of integers begins with a digit
number-line : (said' : List Said) (n : ℕ) (fs : List Field) → SpellFields fs (integer n ∷ said') → (f : Field) × (gs : List Field) × (fs ≡ f ∷ gs) × (digit_first f.bytes ≡ true)
number-line said' n [] h = absurd h
number-line said' n (f ∷ fs) h = (f, fs, refl, rw (house-integer-one n f.bytes h.0) (house-integer-first n))

-- the kinds without a keyword are a goal's and a limit's
digit-line : (k : Kind) → word_at (mission_kind_row k) ≡ none → (fs : List Field) (v : Vals (mdf_sorts k)) → SpellFields fs (said (mdf_sorts k) v) → (f : Field) × (gs : List Field) × (fs ≡ f ∷ gs) × (digit_first f.bytes ≡ true)
digit-line MDF_name_of e fs v h = nothing (sym e)
digit-line RNDF e fs v h = nothing (sym e)
digit-line format_version_of e fs v h = nothing (sym e)
digit-line creation_date_of e fs v h = nothing (sym e)
digit-line checkpoints e fs v h = nothing (sym e)
digit-line num_checkpoints e fs v h = nothing (sym e)
digit-line end_checkpoints e fs v h = nothing (sym e)
digit-line speed_limits e fs v h = nothing (sym e)
digit-line num_speed_limits e fs v h = nothing (sym e)
digit-line end_speed_limits e fs v h = nothing (sym e)
digit-line end_file_of e fs v h = nothing (sym e)
digit-line goal e fs v h = number-line [] v.0 fs h
digit-line limit e fs v h = number-line (integer v.1.0 ∷ integer v.1.1.0 ∷ []) v.0 fs h

options : (b : Base) → T (worded (orders Field) (λ k. word_at (mission_kind_row k)) (opts Field b))
options name_due = tt
options RNDF_due = tt
options checkpoints_due = tt
options num_checkpoints_due = tt
options (goal_due g) = tt
options speed_limits_due = tt
options num_speed_limits_due = tt
options (limit_due l) = tt
options end_file_due = tt

pub mdf-lawful : Lawful (mdf Field) mdf_lexis the_mdf_line_of
mdf-lawful = record { parts = mdf-parts; made = mdf-made; line_made = mdf-line-made; lookup_right = lookup_right 11 mdf_keywords mission_kinds mission_kind_row limit rowed; lookup_only = lookup_only 11 mdf_keywords mission_kinds mission_kind_row limit rowed; no_digit = no_digit 11 mdf_keywords mission_kinds mission_kind_row limit rowed; digit = digit-line; options = options }

-- ## A line that leads on from each place
-- a keyword can be written
pub kw : (i : ℕ) → i < 11 → IsField (get_or mdf_keywords i []) × (length (get_or mdf_keywords i []) ≤ 20)
kw i h = short-field (get_or mdf_keywords i []) (mdf-word-field i h)

-- the house line of the sample that the grammar has for a base
by : (b : Base) → By (mdf Field) the_mdf_line_of (Net.Good Field) (Net.cost Field) (Net.goes_on Field (at 0 x)) b tt
by b = Leaving.by (mdf Field) the_mdf_line_of (Net.Good Field) (Net.cost Field) (Net.goes_on Field (at 0 x)) b tt

pub leaves : (b : Base) → Net.Good Field b → Leaves (mdf Field) the_mdf_line_of (Net.cost Field) b
unfolding the_mdf_line_of mdf_keywords Net.goes_on house_field
leaves name_due y = by_name (mdf Field) the_mdf_line_of (Net.Good Field) (Net.cost Field) name_due (ascii "MDF_name") (λ f. f) (λ f. refl) (kw 0 (omega arith)) (λ f. tt) (λ f. omega arith)
leaves RNDF_due y = by_name (mdf Field) the_mdf_line_of (Net.Good Field) (Net.cost Field) RNDF_due (ascii "RNDF") (λ f. f) (λ f. refl) (kw 1 (omega arith)) (λ f. tt) (λ f. omega arith)
leaves checkpoints_due y = by checkpoints_due (kw 4 (omega arith), tt) (omega arith) (λ a. refl)
leaves num_checkpoints_due y = by num_checkpoints_due (kw 5 (omega arith), (omega arith, tt)) (omega arith) (λ a. refl)
leaves (goal_due zero) y = by (goal_due zero) (kw 6 (omega arith), tt) (omega arith) (λ a. refl)
leaves (goal_due (suc g)) y = by (goal_due (suc g)) (omega arith, tt) (omega arith) (λ a. refl)
leaves speed_limits_due y = by speed_limits_due (kw 7 (omega arith), tt) (omega arith) (λ a. refl)
leaves num_speed_limits_due y = by num_speed_limits_due (kw 8 (omega arith), (omega arith, tt)) (omega arith) (λ a. refl)
leaves (limit_due zero) y = by (limit_due zero) (kw 9 (omega arith), tt) (omega arith) (λ a. refl)
leaves (limit_due (suc l)) y = by (limit_due (suc l)) (omega arith, (omega arith, (omega arith, tt))) (omega arith) (λ a. refl)
leaves end_file_due y = by end_file_due (kw 10 (omega arith), tt) (omega arith) (λ a. refl)

pub keeps : (b : Base) → Net.Good Field b → (v : Says Field (due Field b).on) → T ((due Field b).test v) → GoodNext (mdf Field) (Net.Good Field) ((due Field b).then v)
keeps b y v t = go ((due Field b).then v)
  where
    go : (o : Option Base) → GoodNext (mdf Field) (Net.Good Field) o
    go none = tt
    go (some c) = tt

pub readied : (b : Base) → Net.Good Field b → (g : List Bool) (a : ℕ) → Prepared (mdf Field) the_mdf_line_of b g a
readied b y g a = prepared (mdf Field) the_mdf_line_of b g a refl
