-- Yard A's bytes, and changes of it, by computation: what is answered of the form (2 to 10) of each text. Document 01, "Yard A". Assumes nothing.
use mathlib.Core.Path.{◌≡◌, refl}
use mathlib.Core.List.{List, [], ◌∷◌, ◌++◌}
use mathlib.Core.Option.{Option, none, some}
use Prim.Native.Nat.{ℕ}
use Prim.Native.String.{String}
use Rattle.terms.specs.Ascii.{Bytes, ascii}
use Rattle.scan.specs.Allowed as Allowed
use Rattle.scan.specs.Reach as Reach
use Rattle.line.specs.Content as Content
use Rattle.line.specs.Lines as Lines
use Rattle.line.specs.Forms as Forms
use Rattle.number.specs.Executable as Number
use Rattle.coordinate.specs.Executable as Coordinate
use Rattle.word.specs.Keywords as Keywords
use Rattle.word.specs.Number as Word
use Rattle.grammar.specs.Machine as Machine
use Rattle.grammar.specs.Stands as Stands
use Rattle.text.specs.Judge as Judge
use Rattle.text.specs.Answers.{Answer, faulty, short, read}
use Rattle.text.specs.Answers as Answers
use Rattle.text.proofs.Theorems.{read-rndf}

-- line and number, or none where the text is well-formed
abbrev outcome : {A : Type 0} → Answer A → Option (ℕ × ℕ)
outcome (faulty k c) = some (k, c)
outcome (short k) = some (k, 10)
outcome (read ss) = none

abbrev start : String
start = "RNDF_name\tyard_a\nnum_segments\t1\nnum_zones\t0\nsegment\t1\nnum_lanes\t1\nlane\t1.1\n"

abbrev points : String
points = "1.1.1\t45.000000\t-93.000000\n1.1.2\t45.000100\t-93.000000\nend_lane\nend_segment\n"

abbrev yard : String → String → Bytes
yard middle end = ascii start ++ (ascii middle ++ (ascii points ++ ascii end))

empty : outcome (read-rndf (ascii "")) ≡ some (1, 10)
unfolding ascii Answers.read_text Answers.walk Lines.lines_of
empty = refl

abbrev Holds : List (Bytes × Option (ℕ × ℕ)) → Type 0
Holds [] = Unit {0}
Holds (x ∷ xs) = (outcome (read-rndf x.0) ≡ x.1) × Holds xs

-- 01, "Yard A": those of the cases that are of form; some lines with several faults; and lines with spaces (L3)
pub cases : Holds (
    (yard "num_waypoints\t2\ncheckpoint\t1.1.2\t7\nexit\t1.1.2\t1.1.1\n" "end_file\n", none) ∷
    (yard "num_waypoints\t2\ncheckpoint\t1.1.2\t7\nexit\t1.1.3\t1.1.1\n" "end_file\n", some (9, 9)) ∷
    (yard "num_waypoints\t3\ncheckpoint\t1.1.2\t7\nexit\t1.1.2\t1.1.1\n" "end_file\n", some (12, 5)) ∷
    (yard "num_waypoints\t1\ncheckpoint\t1.1.2\t7\nexit\t1.1.2\t1.1.1\n" "end_file\n", some (8, 9)) ∷
    (yard "num_waypoints\t2\ncheckpoint\t1.1.2\t7\nexit\t1.1.2\t1.1.1\n" "", some (14, 10)) ∷
    (yard "num_waypoints\t2\ncheckpoint\t1.1.3\t07\n" "", some (8, 8)) ∷
    (yard "num_waypoints\t2\nlane_width\t12\nlane_width\tx\ty\n" "", some (9, 6)) ∷
    (yard "num_waypoints\t2\ncheckpoint\t1.1.2\n" "", some (8, 7)) ∷
    (yard "num_waypoints\t2\t/*/\n" "", some (7, 3)) ∷
    (yard "num_waypoints\t2\\/**/\n" "", some (7, 4)) ∷
    (yard " num_waypoints  2 \t /* x */ \nleft_boundary solid_white \n" "end_file\n ", none) ∷
    (yard "num_waypoints 2 2\n" "", some (7, 7)) ∷
    (yard "\t/* x * */\t\r\n\nnum_waypoints\t2/**/\nleft_boundary\tsolid_white\n" "end_file\r\n\t/* */", none) ∷ [])
unfolding ascii Answers.read_text Answers.walk Lines.lines_of Judge.judge Lines.drop_cr Forms.form_of Forms.closes Forms.note_of Forms.outer_of Forms.fields_at Content.parted-by Allowed.separates Allowed.all Reach.two Reach.same_bytes_of Reach.begins Reach.first Reach.up_to Reach.stops_by Judge.tell Judge.read Judge.numbered Number.the_integer_of Number.plain_of Number.plain Number.worth Number.number_of Number.the_pair_of Number.triple_of Coordinate.the_coordinate_of Coordinate.the_millionths_of Word.boundary_number Word.index_of Keywords.rndf_keywords Keywords.boundary_words Machine.step Machine.guard Stands.stands
cases = (refl, (refl, (refl, (refl, (refl, (refl, (refl, (refl, (refl, (refl, (refl, (refl, (refl, tt)))))))))))))
