-- A walk over an RNDF finds what `text` answers of it. Whatever is gathered. Assumes nothing.
use mathlib.Core.Path.{◌≡◌, refl, sym, ap, ◌∙◌}
use mathlib.Core.List.{List}
use mathlib.Core.Option.{Option, none, some}
use mathlib.Core.Bool.{Bool, true, false}
use Prim.Native.Nat.{ℕ}
use lib.ListN.{length, get_or}
use lib.Dec.{eqb}
use borrow.Author.Tests.{eq-eqb, ne_eqb}
use Rattle.terms.specs.Ascii.{Bytes}
use Rattle.line.specs.Content.{Field}
use Rattle.line.specs.Lines.{lines_of}
use Rattle.grammar.specs.Language.{S, as_dec, as_kind}
use Rattle.grammar.specs.Statements.{Kind, Kind-discrete, lines, RNDF_name_of}
use Rattle.grammar.specs.Statements as G
use Rattle.grammar.specs.Machine.{Stand, over, inside}
use Rattle.grammar.specs.Places.{rndf, Base, name_due}
use Rattle.grammar.specs.PlaceRows.{kinds, kind_row}
use Rattle.grammar.specs.Renamed.{statement_named}
use Rattle.grammar.proofs.RndfTable.{coded}
use Rattle.text.specs.RndfWords.{rndf_lexis}
use Rattle.text.specs.Answers.{Answer, faulty, short, read, is_over}
use Rattle.text.proofs.Theorems.{read-rndf}
use Rattle.statement.specs.declared.Statement.{Statement}
use Rattle.statement.specs.Meaning.{Stretch, meant}
use Rattle.statement.specs.Kinds.{written}
use Rattle.made_out.specs.Names.{the_the_stretch_of}
use Rattle.place.specs.declared.Place.{Place}
use Rattle.place.specs.Step.{first_place, over_of}
use Rattle.place.specs.Abstract.{abs_of}
use Rattle.place.proofs.Theorems.{Sound, start-sound, start_is, over-is, over-of}
use Rattle.judge.specs.RndfLine.{rndf_judging}
use Rattle.judge.proofs.RndfTies.{rndf_ties}
use Rattle.walk.specs.Standing as Standing
use Rattle.walk.specs.Standing.{Where, places_in}
use Rattle.walk.specs.Walking.{Found, fault, gathered, walked}
use Rattle.walk.proofs.Speaking.{is_some}
use Rattle.walk.proofs.Walked.{tied, answered, walk-answers, as_many}

pub ended_is : (p : Place) → Sound p → over_of p ≡ is_over (rndf Field) rndf_lexis (abs_of p)
ended_is p h = go (over_of p) refl (abs_of p) refl
  where
    go : (b : Bool) → over_of p ≡ b → (q : Stand Base) → abs_of p ≡ q → b ≡ is_over (rndf Field) rndf_lexis q
    go true e over a = refl
    go true e (inside b g) a = ap (is_over (rndf Field) rndf_lexis) (sym (over-is p h e) ∙ a)
    go false e over a = sym e ∙ over-of p h a
    go false e (inside b g) a = refl

-- the statement of the program that says what a statement of the text says
abbrev pub told_as : G.Statement Field → Statement
told_as t = written (statement_named the_the_stretch_of t)

-- what is put must go by what a statement means
module _ {T : Type 0} (put : Where → Statement → T → T) (by_meaning : (w : Where) (s : Statement) (c : T) → put w s c ≡ put w (written (meant s)) c) (c : T) (text : Bytes) where
  abbrev pub whole-walk : Found T
  whole-walk = walked rndf_judging put over_of first_place c 0 1 (lines_of text)

  answers : whole-walk ≡ answered (rndf Field) rndf_lexis rndf_judging (tied (rndf Field) rndf_lexis rndf_judging rndf_ties) put over_of (λ w m. put w (written m)) by_meaning ended_is (places_in text) c (read-rndf text)
  answers = walk-answers (rndf Field) rndf_lexis rndf_judging (tied (rndf Field) rndf_lexis rndf_judging rndf_ties) put over_of (λ w m. put w (written m)) by_meaning ended_is name_due first_place start-sound start_is c text

  -- all statements, each put where it stands; or the first fault with its line; or 10
  pub walk-read : (ts : List (G.Statement Field)) → read-rndf text ≡ read ts → whole-walk ≡ gathered (Standing.over (λ w t. put w (told_as t)) (places_in text) ts c)
  walk-read ts e = rw e at answers

  pub walk-faulty : (i n : ℕ) → read-rndf text ≡ faulty i n → whole-walk ≡ fault i n
  walk-faulty i n e = rw e at answers

  pub walk-short : (i : ℕ) → read-rndf text ≡ short i → whole-walk ≡ fault i 10
  walk-short i e = rw e at answers

pub rndf_as-many : (text : Bytes) (ts : List (G.Statement Field)) → read-rndf text ≡ read ts → length (places_in text) ≡ length ts
rndf_as-many text ts e = as_many (rndf Field) rndf_lexis name_due text ts e

-- kinds are told apart by their columns
pub of_kind_of : (k : Kind) (t : G.Statement Field) → eqb (kind_row t.kind) (kind_row k) ≡ is_some (as_kind (lines Field) k t)
of_kind_of k t = go (Kind-discrete t.kind k)
  where
    go : (d : Dec (t.kind ≡ k)) → eqb (kind_row t.kind) (kind_row k) ≡ is_some (as_dec (lines Field) k t.kind d t.val)
    go (yes e) = eq-eqb (kind_row t.kind) (kind_row k) (ap kind_row e)
    go (no n) = ne_eqb (kind_row t.kind) (kind_row k) (λ e. n (sym (coded t.kind) ∙ ap (λ (i : ℕ). get_or kinds i RNDF_name_of) e ∙ coded k))
