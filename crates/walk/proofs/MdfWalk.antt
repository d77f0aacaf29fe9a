-- A walk over an MDF finds what `text` answers of it. Whatever is gathered. Assumes nothing.
use mathlib.Core.Path.{◌≡◌, refl, sym, ap, ◌∙◌}
use mathlib.Core.List.{List}
use mathlib.Core.Option.{Option, none, some}
use mathlib.Core.Bool.{Bool, true, false}
use Prim.Native.Nat.{ℕ}
use lib.ListN.{length, get_or}
use lib.Dec.{eqb}
use borrow.Author.Tests.{eq-eqb, ne_eqb}
use Rattle.terms.specs.Ascii.{Bytes}
use Rattle.line.specs.Content.{Field}
use Rattle.line.specs.Lines.{lines_of}
use Rattle.grammar.specs.Language.{S, as_dec, as_kind}
use Rattle.grammar.specs.MissionStatements.{Kind, Kind-discrete, orders, MDF_name_of}
use Rattle.grammar.specs.MissionStatements as G
use Rattle.grammar.specs.Machine.{Stand, over, inside}
use Rattle.grammar.specs.MissionPlaces.{mdf, Base, name_due}
use Rattle.grammar.specs.PlaceRows.{mission_kinds, mission_kind_row}
use Rattle.grammar.specs.Renamed.{order_named}
use Rattle.grammar.proofs.MdfTable.{coded}
use Rattle.text.specs.MdfWords.{mdf_lexis}
use Rattle.text.specs.Answers.{Answer, faulty, short, read, is_over}
use Rattle.text.proofs.Theorems.{read-mdf}
use Rattle.statement.specs.declared.Order.{Order}
use Rattle.statement.specs.MissionMeaning.{meant}
use Rattle.statement.specs.MissionKinds.{written}
use Rattle.made_out.specs.Names.{the_the_stretch_of}
use Rattle.mission_place.specs.declared.MissionPlace.{MissionPlace}
use Rattle.mission_place.specs.Step.{first_place, over_of}
use Rattle.mission_place.specs.Abstract.{abs_of}
use Rattle.mission_place.proofs.Theorems.{Sound, start-sound, start_is, over-is, over-of}
use Rattle.mission_judge.specs.MdfLine.{mdf_judging}
use Rattle.mission_judge.proofs.MdfTies.{mdf_ties}
use Rattle.walk.specs.Standing as Standing
use Rattle.walk.specs.Standing.{Where, places_in}
use Rattle.walk.specs.Walking.{Found, fault, gathered, walked}
use Rattle.walk.proofs.Speaking.{is_some}
use Rattle.walk.proofs.Walked.{tied, answered, walk-answers, as_many}

ended_is : (p : MissionPlace) → Sound p → over_of p ≡ is_over (mdf Field) mdf_lexis (abs_of p)
ended_is p h = go (over_of p) refl (abs_of p) refl
  where
    go : (b : Bool) → over_of p ≡ b → (q : Stand Base) → abs_of p ≡ q → b ≡ is_over (mdf Field) mdf_lexis q
    go true e over a = refl
    go true e (inside b g) a = ap (is_over (mdf Field) mdf_lexis) (sym (over-is p h e) ∙ a)
    go false e over a = sym e ∙ over-of p h a
    go false e (inside b g) a = refl

-- the statement of the program that says what a statement of the text says
abbrev pub told_as : G.Statement Field → Order
told_as t = written (order_named the_the_stretch_of t)

-- what is put must go by what a statement means
module _ {T : Type 0} (put : Where → Order → T → T) (by_meaning : (w : Where) (s : Order) (c : T) → put w s c ≡ put w (written (meant s)) c) (c : T) (text : Bytes) where
  abbrev pub whole-walk : Found T
  whole-walk = walked mdf_judging put over_of first_place c 0 1 (lines_of text)

  answers : whole-walk ≡ answered (mdf Field) mdf_lexis mdf_judging (tied (mdf Field) mdf_lexis mdf_judging mdf_ties) put over_of (λ w m. put w (written m)) by_meaning ended_is (places_in text) c (read-mdf text)
  answers = walk-answers (mdf Field) mdf_lexis mdf_judging (tied (mdf Field) mdf_lexis mdf_judging mdf_ties) put over_of (λ w m. put w (written m)) by_meaning ended_is name_due first_place start-sound start_is c text

  -- all statements, each put where it stands; or the first fault with its line; or 10
  pub walk-read : (ts : List (G.Statement Field)) → read-mdf text ≡ read ts → whole-walk ≡ gathered (Standing.over (λ w t. put w (told_as t)) (places_in text) ts c)
  walk-read ts e = rw e at answers

  pub walk-faulty : (i n : ℕ) → read-mdf text ≡ faulty i n → whole-walk ≡ fault i n
  walk-faulty i n e = rw e at answers

  pub walk-short : (i : ℕ) → read-mdf text ≡ short i → whole-walk ≡ fault i 10
  walk-short i e = rw e at answers

pub mdf_as-many : (text : Bytes) (ts : List (G.Statement Field)) → read-mdf text ≡ read ts → length (places_in text) ≡ length ts
mdf_as-many text ts e = as_many (mdf Field) mdf_lexis name_due text ts e

-- kinds are told apart by their columns
pub of_kind_of : (k : Kind) (t : G.Statement Field) → eqb (mission_kind_row t.kind) (mission_kind_row k) ≡ is_some (as_kind (orders Field) k t)
of_kind_of k t = go (Kind-discrete t.kind k)
  where
    go : (d : Dec (t.kind ≡ k)) → eqb (mission_kind_row t.kind) (mission_kind_row k) ≡ is_some (as_dec (orders Field) k t.kind d t.val)
    go (yes e) = eq-eqb (mission_kind_row t.kind) (mission_kind_row k) (ap mission_kind_row e)
    go (no n) = ne_eqb (mission_kind_row t.kind) (mission_kind_row k) (λ e. n (sym (coded t.kind) ∙ ap (λ (i : ℕ). get_or mission_kinds i MDF_name_of) e ∙ coded k))
