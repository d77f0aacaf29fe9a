-- Of line i of an MDF that is refused: the place that the program finds before it is sound, and lines that say what stands before it lead there; so what it lists is expected. Assumes nothing.
use Rattle.std.specs.Prelude.{Some, Option}
use mathlib.Core.Path.{◌≡◌, refl, sym, ap, subst, ◌∙◌}
use mathlib.Core.List.{List, [], ◌∷◌, ◌++◌, append-nil}
use mathlib.Core.Bool.{Bool, true, false}
use Prim.Native.Nat.{ℕ, suc, ◌+◌, ◌≤◌}
use native.Mathlib.Omega.{arith}
use borrow.Author.Tests.{eq-eqb, ne_eqb}
use lib.ListN.{length}
use Rattle.terms.specs.Ascii.{Bytes}
use Rattle.terms.specs.Words.{Among}
use Rattle.line.specs.Content.{Field}
use Rattle.line.specs.Text.{Cut}
use Rattle.line.specs.Lines.{lines_of}
use Rattle.line.proofs.Cuts.{cut-is}
use Rattle.law.specs.Network.{Line, SayLines}
use Rattle.law.specs.Network as Law
use Rattle.law.specs.Faults.{Begins, MayStand, BadLine, Unended}
use Rattle.edition.specs.declared.Edition as DE
use Rattle.edition.specs.Editions.{inner, rules_of}
use Rattle.grammar.specs.Language.{S}
use Rattle.grammar.specs.Machine.{next, Place, at, run}
use Rattle.grammar.specs.Mission.{SpellsMission}
use Rattle.grammar.specs.PlaceTable.{mdf_table_of}
use Rattle.grammar.specs.MissionPlaces.{mdf, name_due}
use Rattle.grammar.specs.MissionStatements as Mdf
use Rattle.text.specs.MdfLines.{the_mdf_line_of}
use Rattle.text.specs.MdfWords.{mdf_lexis}
use Rattle.law_spelling.proofs.Lines.{lines-back}
use Rattle.law_faults.proofs.Reached.{laws, begins-back}
use Rattle.law_faults.proofs.Mdf.{mdf-needs_in}
use Rattle.statement.specs.declared.Order.{Order}
use Rattle.mission_place.specs.declared.MissionPlace as DP
use Rattle.mission_place.specs.Step.{first_place}
use Rattle.mission_place.specs.Abstract.{abs_of}
use Rattle.mission_place.proofs.Theorems.{Sound, start-sound, start_is}
use Rattle.judge.specs.Judging.{blank, said, line}
use Rattle.mission_judge.specs.MdfLine.{mdf_judging}
use Rattle.mission_judge.proofs.MdfTies.{mdf_ties}
use Rattle.refusal.specs.Size.{most}
use Rattle.mission_column.specs.Before.{arrive_from, standing, mission_place_before_of}
use Rattle.mission_column.proofs.Lines.{place-before}
use Rattle.expected_law.specs.Expected.{lines, ExpectedBehind, Expected, unknown}
use Rattle.expected_forms.specs.Forms.{order_forms_at, owed_orders_of}
use Rattle.expected_places.proofs.LineWalks.{LineWalk, walked_to}
use Rattle.expected_places.proofs.MdfPlaces.{MdfCame, mdf_expects}

-- ## The walk to line i, in front of these lines
module _ (i : ℕ) where
  stops : (p : DP.MissionPlace) (start : ℕ) (ls : List Bytes) → standing (arrive_from p start i i ls) ≡ Some p
  unfolding arrive_from
  stops p start [] = refl
  stops p start (l ∷ ls) = rw (eq-eqb i i refl) refl

  passes : (p : DP.MissionPlace) (start j : ℕ) (l : Bytes) (ls : List Bytes) → (j ≡ i → ⊥) → line mdf_judging l start p ≡ blank → standing (arrive_from p start j i (l ∷ ls)) ≡ standing (arrive_from p (start + suc (length l)) (suc j) i ls)
  unfolding arrive_from
  passes p start j l ls n e = rw (ne_eqb j i n, e) refl

  moves : (p : DP.MissionPlace) (start j : ℕ) (l : Bytes) (ls : List Bytes) → (j ≡ i → ⊥) → (s : Order) (q : DP.MissionPlace) → line mdf_judging l start p ≡ said s q → standing (arrive_from p start j i (l ∷ ls)) ≡ standing (arrive_from q (start + suc (length l)) (suc j) i ls)
  unfolding arrive_from
  moves p start j l ls n s q e = rw (ne_eqb j i n, e) refl

  abbrev to-line : (rest : List Bytes) → LineWalk mdf_judging i rest (Option DP.MissionPlace)
  to-line rest = record { walk = λ p start j ls. standing (arrive_from p start j i ls); stands = Some; stops = λ p start. stops p start rest; passes = passes; moves = moves }

module _ (e : DE.Edition) (text : Bytes) (size : length text ≤ most) where
  -- the place before line i: it is sound, and statements that say what stands there lead to it
  pub record MdfStands (i : ℕ) (front : List Line) : Type 0 where
    pub place : DP.MissionPlace
    pub found : mission_place_before_of text i ≡ Some place
    pub sound : Sound place
    pub said : List (S (Mdf.orders Field))
    pub is : front ≡ laws the_mdf_line_of said
    pub came : MdfCame e said (abs_of place)

  stands-before : (i : ℕ) (ls before rest : List Bytes) → Cut text ls → ls ≡ before ++ rest → i ≡ suc (length before) → (front : List Line) → SayLines (rules_of e) 0 before front → Begins (rules_of e) Law.SpellsMission front → MdfStands i front
  stands-before i ls before rest c q n front h b =
      let N = mdf-needs_in (inner e) in
      let x = begins-back (mdf Field) mdf_lexis the_mdf_line_of SpellsMission Law.SpellsMission name_due N front b in
      let lines = lines-back (inner e) the_mdf_line_of N.all x.0 (subst (SayLines (rules_of e) 0 before) x.2 h) in
      let first = at (mdf Field) name_due in
      let y = walked_to (mdf Field) mdf_lexis the_mdf_line_of N.file.lawful mdf_judging mdf_ties (to-line i rest) lines first_place start-sound first x.1 start_is x.3 1 (omega (arith, n)) in
      record {
        place = y.0;
        found = place-before text i size ∙ ap (λ (l : List Bytes). standing (arrive_from first_place 0 1 i l)) (cut-is c ∙ q) ∙ y.1;
        sound = y.2;
        said = x.0;
        is = x.2;
        came = subst (MdfCame e x.0) (sym y.3) x.3;
      }

  pub mdf-line-told : (i n : ℕ) (bad : BadLine (rules_of e) Law.SpellsMission text i n) → MdfStands i bad.front
  mdf-line-told i n bad = stands-before i _ bad.at.before (bad.this ∷ bad.at.rest) bad.at.cut refl bad.at.number bad.front bad.at.said bad.begins

  pub mdf-end-told : (i : ℕ) (short : Unended (rules_of e) Law.SpellsMission text i) → MdfStands i short.said
  mdf-end-told i short = stands-before i short.lines short.lines [] short.cut (sym (append-nil short.lines)) short.line short.said short.spelled short.begins

  -- what is listed there is expected
  pub mdf-lists-there : (i : ℕ) (front : List Line) (s : MdfStands i front) → ExpectedBehind (rules_of e) Law.SpellsMission front (lines (owed_orders_of s.place) (order_forms_at mdf_table_of s.place))
  mdf-lists-there i front s = subst (λ (front : List Line). ExpectedBehind (rules_of e) Law.SpellsMission front (lines (owed_orders_of s.place) (order_forms_at mdf_table_of s.place))) (sym s.is) (mdf_expects e s.place s.sound s.said s.came)
