-- A yard with a spot, and what its text gets by computation, in each edition: the cases of request L8. Assumes nothing.
use mathlib.Core.Path.{◌≡◌, refl}
use mathlib.Core.List.{List, [], ◌∷◌, ◌++◌}
use mathlib.Core.Option.{Option, none, some}
use Prim.Native.Nat.{ℕ}
use Prim.Native.String.{String}
use Rattle.terms.specs.Ascii.{Bytes, ascii}
use Rattle.scan.specs.Allowed as Allowed
use Rattle.scan.specs.Reach as Reach
use Rattle.line.specs.Content as Content
use Rattle.line.specs.Lines as Lines
use Rattle.line.specs.Forms as Forms
use Rattle.number.specs.Executable as Number
use Rattle.coordinate.specs.Executable as Coordinate
use Rattle.word.specs.Keywords as Keywords
use Rattle.word.specs.Number as Word
use Rattle.grammar.specs.Editions.{Edition, march, december}
use Rattle.grammar.specs.Machine as Machine
use Rattle.grammar.specs.Stands as Stands
use Rattle.text.specs.Judge as Judge
use Rattle.text.specs.Answers.{Answer, faulty, short, read}
use Rattle.text.specs.Answers as Answers
use Rattle.text.proofs.Theorems.{read-rndf_in}

-- line and number, or none where the text is well-formed
abbrev outcome : {A : Type 0} → Answer A → Option (ℕ × ℕ)
outcome (faulty k c) = some (k, c)
outcome (short k) = some (k, 10)
outcome (read ss) = none

-- 17 lines, the last is `spot` 2.1
abbrev start : String
start = "RNDF_name\tz\nnum_segments\t1\nnum_zones\t1\nsegment\t1\nnum_lanes\t1\nlane\t1.1\nnum_waypoints\t1\n1.1.1\t0.000000\t0.000000\nend_lane\nend_segment\nzone\t2\nnum_spots\t1\nperimeter\t2.0\nnum_perimeterpoints\t1\n2.0.1\t0.000000\t0.000000\nend_perimeter\nspot\t2.1\n"

abbrev end : String
end = "2.1.2\t0.000000\t0.000000\nend_spot\nend_zone\nend_file\n"

abbrev yard : String → Bytes
yard middle = ascii start ++ ascii middle

abbrev Holds : Edition → List (Bytes × Option (ℕ × ℕ)) → Type 0
Holds e [] = Unit {0}
Holds e (x ∷ xs) = (outcome (read-rndf_in e x.0) ≡ x.1) × Holds e xs

pub cases : (e : Edition) → Holds e (
    (yard "checkpoint\t2.1.2\t7\n2.1.1\t0.000000\t0.000000\n" ++ ascii end, none) ∷
    (yard "checkpoint\t2.1.2\t7\nspot_width\t9\n2.1.1\t0.000000\t0.000000\n" ++ ascii end, none) ∷
    (yard "2.1.1\t0.000000\t0.000000\n" ++ ascii end, some (18, 25)) ∷
    (yard "spot_width\t9\n2.1.1\t0.000000\t0.000000\n" ++ ascii end, some (19, 25)) ∷
    (yard "2.1.1\t91.000000\t0.000000\n", some (18, 9)) ∷
    (yard "2.1.1\tx\t0.000000\n", some (18, 8)) ∷
    (yard "2.1.2\t0.000000\t0.000000\n", some (18, 9)) ∷
    (yard "2.1.1\t0.000000\t0.000000\tx\n", some (18, 7)) ∷
    (yard "end_spot\n", some (18, 5)) ∷
    (yard "checkpoint\t2.1.1\t7\n", some (18, 9)) ∷
    (yard "checkpoint\t2.1.2\t7\ncheckpoint\t2.1.1\t8\n", some (19, 6)) ∷
    (yard "", some (18, 10)) ∷ [])
unfolding ascii Answers.read_text Answers.walk Lines.lines_of Judge.judge Lines.drop_cr Forms.form_of Forms.closes Forms.note_of Forms.outer_of Forms.fields_at Content.parted-by Allowed.separates Allowed.all Reach.two Reach.same_bytes_of Reach.begins Reach.first Reach.up_to Reach.stops_by Judge.tell Judge.read Judge.numbered Number.the_integer_of Number.plain_of Number.plain Number.worth Number.number_of Number.the_pair_of Number.triple_of Coordinate.the_coordinate_of Coordinate.the_millionths_of Word.boundary_number Word.index_of Keywords.rndf_keywords Keywords.boundary_words Machine.step Machine.guard Stands.stands
cases march = (refl, (refl, (refl, (refl, (refl, (refl, (refl, (refl, (refl, (refl, (refl, (refl, tt))))))))))))
cases december = (refl, (refl, (refl, (refl, (refl, (refl, (refl, (refl, (refl, (refl, (refl, (refl, tt))))))))))))
