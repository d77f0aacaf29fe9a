-- Of line i of an RNDF that is refused: the place that the program finds before it is sound, and lines that say what stands before it lead there; so what it lists is expected. Assumes nothing.
use Rattle.std.specs.Prelude.{Some, Option}
use mathlib.Core.Path.{◌≡◌, refl, sym, ap, subst, ◌∙◌}
use mathlib.Core.List.{List, [], ◌∷◌, ◌++◌, append-nil}
use mathlib.Core.Bool.{Bool, true, false}
use Prim.Native.Nat.{ℕ, suc, ◌+◌, ◌≤◌}
use native.Mathlib.Omega.{arith}
use borrow.Author.Tests.{eq-eqb, ne_eqb}
use lib.ListN.{length}
use Rattle.terms.specs.Ascii.{Bytes}
use Rattle.terms.specs.Words.{Among}
use Rattle.line.specs.Content.{Field}
use Rattle.line.specs.Text.{Cut}
use Rattle.line.specs.Lines.{lines_of}
use Rattle.line.proofs.Cuts.{cut-is}
use Rattle.law.specs.Network.{Line, SayLines}
use Rattle.law.specs.Network as Law
use Rattle.law.specs.Faults.{Begins, MayStand, BadLine, Unended}
use Rattle.edition.specs.declared.Edition as DE
use Rattle.edition.specs.Editions.{inner, rules_of}
use Rattle.grammar.specs.Editions.{march}
use Rattle.grammar.specs.Language.{S}
use Rattle.grammar.specs.Machine.{next, Place, at, run}
use Rattle.grammar.specs.Network.{under, SpellsNetworkBy}
use Rattle.grammar.specs.PlaceTable.{rndf_table_of}
use Rattle.grammar.specs.Places.{rndf, rndf_by, name_due}
use Rattle.grammar.specs.Statements as Rndf
use Rattle.text.specs.RndfLines.{rndf_line_in_of, the_rndf_line_of}
use Rattle.text.specs.RndfWords.{rndf_lexis_in, rndf_lexis}
use Rattle.text.proofs.RndfText.{rndf-lawful}
use Rattle.law_spelling.proofs.Lines.{lines-back}
use Rattle.law_faults.proofs.Reached.{laws, begins-back}
use Rattle.law_faults.proofs.Rndf.{rndf-needs_in}
use Rattle.editions.proofs.Steps.{run-later}
use Rattle.editions.proofs.Later.{lines-later}
use Rattle.statement.specs.declared.Statement.{Statement}
use Rattle.place.specs.declared.Place as DP
use Rattle.place.specs.Step.{first_place}
use Rattle.place.specs.Abstract.{abs_of}
use Rattle.place.proofs.Theorems.{Sound, start-sound, start_is}
use Rattle.judge.specs.Judging.{blank, said, line}
use Rattle.judge.specs.RndfLine.{rndf_judging}
use Rattle.judge.proofs.RndfTies.{rndf_ties}
use Rattle.refusal.specs.Size.{most}
use Rattle.column.specs.Before.{lines_before, place_after_of, place_before_of}
use Rattle.column.proofs.Places.{place-before}
use Rattle.expected_law.specs.Expected.{lines, ExpectedBehind, Expected, unknown}
use Rattle.expected_forms.specs.Forms.{forms_at, the_owed_of}
use Rattle.expected_places.proofs.LineWalks.{LineWalk, walked_to}
use Rattle.expected_places.proofs.RndfPlaces.{RndfCame, rndf_expects}

-- ## The walk to line i, in front of these lines
module _ (i : ℕ) where
  stops : (p : DP.Place) (start : ℕ) (ls : List Bytes) → place_after_of p start (lines_before i i ls) ≡ Some p
  unfolding place_after_of lines_before
  stops p start [] = refl
  stops p start (l ∷ ls) = rw (eq-eqb i i refl) refl

  passes : (p : DP.Place) (start j : ℕ) (l : Bytes) (ls : List Bytes) → (j ≡ i → ⊥) → line rndf_judging l start p ≡ blank → place_after_of p start (lines_before j i (l ∷ ls)) ≡ place_after_of p (start + suc (length l)) (lines_before (suc j) i ls)
  unfolding place_after_of lines_before
  passes p start j l ls n e = rw (ne_eqb j i n, e) refl

  moves : (p : DP.Place) (start j : ℕ) (l : Bytes) (ls : List Bytes) → (j ≡ i → ⊥) → (s : Statement) (q : DP.Place) → line rndf_judging l start p ≡ said s q → place_after_of p start (lines_before j i (l ∷ ls)) ≡ place_after_of q (start + suc (length l)) (lines_before (suc j) i ls)
  unfolding place_after_of lines_before
  moves p start j l ls n s q e = rw (ne_eqb j i n, e) refl

  abbrev to-line : (rest : List Bytes) → LineWalk rndf_judging i rest (Option DP.Place)
  to-line rest = record { walk = λ p start j ls. place_after_of p start (lines_before j i ls); stands = Some; stops = λ p start. stops p start rest; passes = passes; moves = moves }

module _ (e : DE.Edition) (text : Bytes) (size : length text ≤ most) where
  -- the place before line i: it is sound, and statements that say what stands there lead to it
  pub record RndfStands (i : ℕ) (front : List Line) : Type 0 where
    pub place : DP.Place
    pub found : place_before_of text i ≡ Some place
    pub sound : Sound place
    pub said : List (S (Rndf.lines Field))
    pub is : front ≡ laws (rndf_line_in_of (inner e)) said
    pub came : RndfCame e said (abs_of place)

  stands-before : (i : ℕ) (ls before rest : List Bytes) → Cut text ls → ls ≡ before ++ rest → i ≡ suc (length before) → (front : List Line) → SayLines (rules_of e) 0 before front → Begins (rules_of e) Law.SpellsNetwork front → RndfStands i front
  stands-before i ls before rest c q n front h b =
      let N = rndf-needs_in (inner e) in
      let x = begins-back (rndf_by Field (under (inner e) true)) (rndf_lexis_in (inner e)) (rndf_line_in_of (inner e)) (SpellsNetworkBy (under (inner e) true)) Law.SpellsNetwork name_due N front b in
      let lines = lines-later (inner e) (lines-back (inner e) (rndf_line_in_of (inner e)) N.all x.0 (subst (SayLines (rules_of e) 0 before) x.2 h)) in
      let first = at (rndf Field) name_due in
      let y = walked_to (rndf Field) rndf_lexis the_rndf_line_of (rndf-lawful march) rndf_judging rndf_ties (to-line i rest) lines first_place start-sound first x.1 start_is (run-later (inner e) first x.1 x.0 x.3) 1 (omega (arith, n)) in
      record {
        place = y.0;
        found = place-before text i size ∙ ap (λ (l : List Bytes). place_after_of first_place 0 (lines_before 1 i l)) (cut-is c ∙ q) ∙ y.1;
        sound = y.2;
        said = x.0;
        is = x.2;
        came = subst (RndfCame e x.0) (sym y.3) x.3;
      }

  pub rndf-line-told : (i n : ℕ) (bad : BadLine (rules_of e) Law.SpellsNetwork text i n) → RndfStands i bad.front
  rndf-line-told i n bad = stands-before i _ bad.at.before (bad.this ∷ bad.at.rest) bad.at.cut refl bad.at.number bad.front bad.at.said bad.begins

  pub rndf-end-told : (i : ℕ) (short : Unended (rules_of e) Law.SpellsNetwork text i) → RndfStands i short.said
  rndf-end-told i short = stands-before i short.lines short.lines [] short.cut (sym (append-nil short.lines)) short.line short.said short.spelled short.begins

  -- what is listed there is expected
  pub rndf-lists-there : (i : ℕ) (front : List Line) (s : RndfStands i front) → ExpectedBehind (rules_of e) Law.SpellsNetwork front (lines (the_owed_of s.place) (forms_at e rndf_table_of s.place))
  rndf-lists-there i front s = subst (λ (front : List Line). ExpectedBehind (rules_of e) Law.SpellsNetwork front (lines (the_owed_of s.place) (forms_at e rndf_table_of s.place))) (sym s.is) (rndf_expects e s.place s.sound s.said s.came)
