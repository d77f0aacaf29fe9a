-- WHAT THE EDITIONS TELL APART, from the contract of `read_rndf`: `solid_yellow` and a zone without spots in each of them; so a reader that does not heed the edition is shut out. Request L10. Assumes nothing.
use Rattle.std.specs.Prelude.{Ok, Err}
use Rattle.replies.specs.Types.{RndfReply}
use mathlib.Core.Path.{◌≡◌, refl, sym, ap, ◌∙◌}
use Prim.Native.Nat.{ℕ, ◌≤◌}
use native.Mathlib.Omega.{arith}
use lib.Dec.{lit≤}
use lib.ListN.{length}
use Rattle.terms.specs.Ascii.{Bytes, ascii}
use Rattle.scan.specs.Allowed as Allowed
use Rattle.scan.specs.Reach as Reach
use Rattle.line.specs.Content as Content
use Rattle.line.specs.Lines as Lines
use Rattle.line.specs.Forms as Forms
use Rattle.number.specs.Executable as Number
use Rattle.coordinate.specs.Executable as Coordinate
use Rattle.word.specs.Keywords as Keywords
use Rattle.word.specs.Number as Word
use Rattle.grammar.specs.Editions.{march, december}
use Rattle.grammar.specs.Machine as Machine
use Rattle.grammar.specs.Stands as Stands
use Rattle.text.specs.Judge as Judge
use Rattle.text.specs.Answers.{faulty, short}
use Rattle.text.specs.Answers as Answers
use Rattle.text.proofs.Theorems.{read-rndf_in}
use Rattle.law.specs.Tables.{Lent}
use Rattle.law_columns.specs.Finding as Finding
use Rattle.law_columns.specs.Files.{rndf_column_in_of}
use Rattle.edition.specs.declared.Edition.TheVariants.{March2007, December2006}
use Rattle.edition.specs.Editions.{rules_of}
use Rattle.replies.specs.Replies.{longest, bad_line, unended}
use Rattle.replies.specs.Short.{RefusesRndf}
use Rattle.promises.specs.Yards.{yellow, no_spots, used}
use Rattle.promises.specs.Cases.{EditionCases}
use Rattle.promises.specs.Readers.{Reader, Meets}
use Rattle.promises.proofs.YardTexts.{bad, open-ended, bad-at}
use Rattle.promises.proofs.YardA.{refused}

-- ## By computation
record Answered : Type 0 where
  pub older_yellow : read-rndf_in december yellow ≡ faulty 8 8
  pub older_no_spots : read-rndf_in december no_spots ≡ faulty 12 9
  pub present_yellow : read-rndf_in march yellow ≡ short 9
  pub present_no_spots : read-rndf_in march no_spots ≡ short 13
  pub yellow_at : rndf_column_in_of december yellow 8 8 ≡ 15
  pub no_spots_at : rndf_column_in_of december no_spots 12 9 ≡ 11

answered : Answered
unfolding ascii Answers.read_text Answers.walk Lines.lines_of Judge.judge Lines.drop_cr Forms.form_of Forms.closes Forms.note_of Forms.outer_of Forms.fields_at Content.parted-by Allowed.separates Allowed.all Reach.two Reach.same_bytes_of Reach.begins Reach.first Reach.up_to Reach.stops_by Judge.tell Judge.read Judge.numbered Number.the_integer_of Number.plain_of Number.plain Number.worth Number.number_of Number.the_pair_of Number.triple_of Coordinate.the_coordinate_of Coordinate.the_millionths_of Word.boundary_number Word.index_of Keywords.rndf_keywords Keywords.boundary_words Machine.step Machine.guard Stands.stands Finding.wrong_at Finding.field_at Finding.column_of Finding.column_from Finding.column_in
answered = record { older_yellow = refl; older_no_spots = refl; present_yellow = refl; present_no_spots = refl; yellow_at = refl; no_spots_at = refl }

small : (length yellow ≤ longest) × (length no_spots ≤ longest)
unfolding ascii
small = (lit≤ tt, lit≤ tt)

-- a bad line of the older edition, with its column, and an end that the present one misses
older : (text : Bytes) (t : Lent) (line number column : ℕ) → length text ≤ longest → read-rndf_in december text ≡ faulty line number → rndf_column_in_of december text line number ≡ column → RefusesRndf (rules_of December2006) text t line number column
older text t line number column size e c = let b = bad December2006 text line number e in bad_line size b (bad-at December2006 text line number column b c)

present : (text : Bytes) (t : Lent) (line : ℕ) → length text ≤ longest → read-rndf_in march text ≡ short line → RefusesRndf (rules_of March2007) text t line 10 0
present text t line size e = unended size (open-ended March2007 text line e)

-- THE THEOREMS
pub edition-cases : (t : Lent) → EditionCases t
edition-cases t = record {
  older_yellow = refused December2006 yellow t 8 8 15 (older yellow t 8 8 15 small.0 answered.older_yellow answered.yellow_at);
  older_no_spots = refused December2006 no_spots t 12 9 11 (older no_spots t 12 9 11 small.1 answered.older_no_spots answered.no_spots_at);
  present_yellow = refused March2007 yellow t 9 10 0 (present yellow t 9 small.0 answered.present_yellow);
  present_no_spots = refused March2007 no_spots t 13 10 0 (present no_spots t 13 small.1 answered.present_no_spots);
}

abbrev line_in : RndfReply → ℕ
line_in (Ok (c, file)) = 0
line_in (Err x) = x.line

-- no reader meets the contract of both editions: one that does not heed it is shut out, already on either of these texts
module _ (f : Reader) where
  pub one-edition-only : Meets March2007 f yellow used → Meets December2006 f yellow used → ⊥
  one-edition-only m d =
      let p = ((edition-cases used).present_yellow (f yellow used).0 (f yellow used).1 m).0 in
      let q = ((edition-cases used).older_yellow (f yellow used).0 (f yellow used).1 d).0 in
      let z : ◌≡◌ {A = ℕ} 9 8 = ap line_in (sym p ∙ q) in
      omega arith

  pub one-edition-of-spots : Meets March2007 f no_spots used → Meets December2006 f no_spots used → ⊥
  one-edition-of-spots m d =
      let p = ((edition-cases used).present_no_spots (f no_spots used).0 (f no_spots used).1 m).0 in
      let q = ((edition-cases used).older_no_spots (f no_spots used).0 (f no_spots used).1 d).0 in
      let z : ◌≡◌ {A = ℕ} 13 12 = ap line_in (sym p ∙ q) in
      omega arith
