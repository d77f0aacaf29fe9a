-- What the theorems ask of an MDF. Assumes nothing.
use mathlib.Core.Path.{◌≡◌, refl, sym, ap, ◌∙◌}
use mathlib.Core.List.{List, [], ◌∷◌}
use mathlib.Core.Option.{Option, none}
use mathlib.Core.Bool.{not}
use Prim.Native.Nat.{ℕ, zero, suc}
use lib.Dec.{T}
use Rattle.terms.specs.Ascii.{Bytes, ascii}
use Rattle.terms.proofs.Tests.{nothing}
use Rattle.line.specs.Content.{Field, at}
use Rattle.scan.specs.Reach.{same_bytes_of}
use Rattle.word.specs.Keywords.{mdf_keywords}
use Rattle.word.specs.Number.{index_of}
use Rattle.law.specs.Network.{Mission, Line, numbers, reading, present, lenient}
use Rattle.law.specs.Network as Law
use Rattle.grammar.specs.Editions.{Edition, march, law_of}
use Rattle.grammar.specs.Language.{say}
use Rattle.grammar.specs.Mission.{SpellsMission}
use Rattle.grammar.specs.MissionStatements.{Kind, Says, orders, MDF_name_of, RNDF, format_version_of, creation_date_of, checkpoints, num_checkpoints, end_checkpoints, speed_limits, num_speed_limits, end_speed_limits, end_file_of, goal, limit}
use Rattle.grammar.specs.Machine.{Place, step}
use Rattle.grammar.specs.Machine as Machine
use Rattle.grammar.specs.MissionPlaces.{mdf, Base, opts, due, name_due, RNDF_due, checkpoints_due, num_checkpoints_due, goal_due, speed_limits_due, num_speed_limits_due, limit_due, end_file_due}
use Rattle.grammar.specs.PlaceRows.{mission_kind_row}
use Rattle.grammar.specs.Renamed.{orders_named}
use Rattle.grammar.proofs.Keeping.{GoodNext}
use Rattle.grammar.proofs.Renaming.{mdf-renamed}
use Rattle.text.specs.MdfLines.{the_mdf_line_of}
use Rattle.text.specs.MdfWords.{word_at, mdf_sorts, mdf_make, mdf_lexis}
use Rattle.text.specs.Judge.{Vals}
use Rattle.text.specs.Spelling.{Name, bytes, bytes_of}
use Rattle.text.proofs.Theorems.{mdf-file}
use Rattle.law_spelling.proofs.MdfParts.{mission-to_in, mission-back_in}
use Rattle.law_spelling.proofs.OneLine.{mdf-line-one, mdf-begins, mdf-all}
use Rattle.law_faults.proofs.Sorts.{law-said}
use Rattle.law_faults.proofs.Moved.{Alike}
use Rattle.law_faults.proofs.Needs.{Values, Needs}
use Rattle.law_faults.proofs.Listed.{listed?, unlisted-so, all-listed?, all-listed-so}

abbrev keyword : Kind → Option Bytes
keyword k = word_at (mission_kind_row k)

-- ## The options are the law's, and no due statement is one
options-listed : (b : Base) → T (all-listed? (orders Field) keyword (opts Field b))
unfolding mdf_keywords ascii index_of same_bytes_of
options-listed name_due = tt
options-listed RNDF_due = tt
options-listed checkpoints_due = tt
options-listed num_checkpoints_due = tt
options-listed (goal_due g) = tt
options-listed speed_limits_due = tt
options-listed num_speed_limits_due = tt
options-listed (limit_due l) = tt
options-listed end_file_due = tt

due-unlisted : (b : Base) → T (not (listed? (keyword (due Field b).on)))
unfolding mdf_keywords ascii index_of same_bytes_of
due-unlisted name_due = tt
due-unlisted RNDF_due = tt
due-unlisted checkpoints_due = tt
due-unlisted num_checkpoints_due = tt
due-unlisted (goal_due zero) = tt
due-unlisted (goal_due (suc g)) = tt
due-unlisted speed_limits_due = tt
due-unlisted num_speed_limits_due = tt
due-unlisted (limit_due zero) = tt
due-unlisted (limit_due (suc l)) = tt
due-unlisted end_file_due = tt

-- ## A permitted value of each option: any name
a_name : Field
a_name = at 0 []

values_after : (b : Base) (v : Says Field (due Field b).on) → T ((due Field b).test v) → GoodNext (mdf Field) (Values (mdf Field)) ((due Field b).then v)
values_after name_due v t = tt
values_after RNDF_due v t = ((a_name, tt), ((a_name, tt), tt))
values_after checkpoints_due v t = tt
values_after num_checkpoints_due v t = tt
values_after (goal_due zero) v t = tt
values_after (goal_due (suc g)) v t = tt
values_after speed_limits_due v t = tt
values_after num_speed_limits_due v t = tt
values_after (limit_due zero) v t = tt
values_after (limit_due (suc l)) v t = tt
values_after end_file_due v t = tt

-- ## The kinds without a keyword are a goal's and a limit's
numeric : (k : Kind) → keyword k ≡ none → (w : Vals (mdf_sorts k)) → (i : List ℕ) × (l : Line) × (law-said (mdf_sorts k) w ≡ numbers i ∷ l)
numeric MDF_name_of e w = nothing (sym e)
numeric RNDF e w = nothing (sym e)
numeric format_version_of e w = nothing (sym e)
numeric creation_date_of e w = nothing (sym e)
numeric checkpoints e w = nothing (sym e)
numeric num_checkpoints e w = nothing (sym e)
numeric end_checkpoints e w = nothing (sym e)
numeric speed_limits e w = nothing (sym e)
numeric num_speed_limits e w = nothing (sym e)
numeric end_speed_limits e w = nothing (sym e)
numeric end_file_of e w = nothing (sym e)
numeric goal e w = (_, _, refl)
numeric limit e w = (_, _, refl)

-- ## Names' places do not matter
alike : (k : Kind) (u w : Vals (mdf_sorts k)) → Alike (mdf_sorts k) u w → orders_named bytes_of k (mdf_make k u) ≡ orders_named bytes_of k (mdf_make k w)
alike MDF_name_of u w h = ap bytes h.0
alike RNDF u w h = ap bytes h.0
alike format_version_of u w h = ap bytes h.0
alike creation_date_of u w h = ap bytes h.0
alike checkpoints u w h = refl
alike num_checkpoints u w h = h.0
alike end_checkpoints u w h = refl
alike speed_limits u w h = refl
alike num_speed_limits u w h = h.0
alike end_speed_limits u w h = refl
alike end_file_of u w h = refl
alike goal u w h = h.0
alike limit u w h = λ i. record { id = h.0 i; minimum = h.1.0 i; maximum = h.1.1.0 i }

steady : (p : Place (mdf Field)) (k : Kind) (u w : Vals (mdf_sorts k)) → Alike (mdf_sorts k) u w → step (mdf Field) p (say (orders Field) k (mdf_make k u)) ≡ step (mdf Field) p (say (orders Field) k (mdf_make k w))
steady p k u w h = sym (mdf-renamed bytes_of p (say (orders Field) k (mdf_make k u))) ∙ ap (λ (v : Says Name k). step (mdf Name) p (say (orders Name) k v)) (alike k u w h) ∙ mdf-renamed bytes_of p (say (orders Field) k (mdf_make k w))

module _ (d : Edition) where
  pub mdf-needs_in : Needs d (reading (law_of d)) (mdf Field) mdf_lexis the_mdf_line_of SpellsMission Law.SpellsMission name_due
  mdf-needs_in = record {
    file = mdf-file;
    to = mission-to_in d;
    back = mission-back_in d;
    one = mdf-line-one;
    all = mdf-all d;
    begins = mdf-begins;
    values_first = tt;
    values_after = values_after;
    listed = λ b. all-listed-so (orders Field) keyword (opts Field b) (options-listed b);
    unlisted = λ b. unlisted-so (keyword (due Field b).on) (due-unlisted b);
    numeric = numeric;
    steady = steady;
  }

  -- L8's rule asks nothing of a mission
  to-lenient : (n : Mission Field) (l : List Line) → Law.SpellsMission (reading (law_of d)) n l → Law.SpellsMission (lenient (reading (law_of d))) n l
  to-lenient n l h = record { options = h.options; given = h.given; good = h.good; spelled = h.spelled }

  to-present : (n : Mission Field) (l : List Line) → Law.SpellsMission (lenient (reading (law_of d))) n l → Law.SpellsMission (reading (law_of d)) n l
  to-present n l h = record { options = h.options; given = h.given; good = h.good; spelled = h.spelled }

  pub mdf-lenient-needs_in : Needs d (lenient (reading (law_of d))) (Machine.lenient (mdf Field)) mdf_lexis the_mdf_line_of SpellsMission Law.SpellsMission name_due
  mdf-lenient-needs_in = record {
    file = mdf-file;
    to = λ n l h. to-lenient n _ (mission-to_in d n l h);
    back = λ n l h. mission-back_in d n l (to-present n l h);
    one = mdf-line-one;
    all = mdf-all d;
    begins = mdf-begins;
    values_first = tt;
    values_after = values_after;
    listed = mdf-needs_in.listed;
    unlisted = mdf-needs_in.unlisted;
    numeric = numeric;
    steady = steady;
  }

-- in the present edition
pub mdf-needs : Needs march present (mdf Field) mdf_lexis the_mdf_line_of SpellsMission Law.SpellsMission name_due
mdf-needs = mdf-needs_in march

pub mdf-lenient-needs : Needs march (lenient present) (Machine.lenient (mdf Field)) mdf_lexis the_mdf_line_of SpellsMission Law.SpellsMission name_due
mdf-lenient-needs = mdf-lenient-needs_in march
