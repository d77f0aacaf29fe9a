-- Yard A's RNDF and one change of it each, by computation: the networks that the well-formed ones spell, and the faults of the others, in each edition. Document 01, "Yard A". Assumes nothing.
use mathlib.Core.Path.{◌≡◌, refl, sym, subst, ◌∙◌}
use mathlib.Core.Bool.{true}
use mathlib.Core.List.{List, [], ◌∷◌, ◌++◌}
use Prim.Native.Nat.{ℕ}
use native.Mathlib.Omega.{arith}
use lib.Dec.{lit<}
use Rattle.terms.specs.Ascii.{Bytes, ascii}
use Rattle.scan.specs.Allowed as Allowed
use Rattle.scan.specs.Reach as Reach
use Rattle.line.specs.Content.{Field}
use Rattle.line.specs.Content as Content
use Rattle.line.specs.Lines as Lines
use Rattle.line.specs.Forms as Forms
use Rattle.number.specs.Executable as Number
use Rattle.coordinate.specs.Executable as Coordinate
use Rattle.word.specs.Keywords as Keywords
use Rattle.word.specs.Number as Word
use Rattle.grammar.specs.Machine as Machine
use Rattle.grammar.specs.Stands as Stands
use Rattle.grammar.specs.Statements.{Statement, PointId, say, point_id, part_id, point_line_of, numbered, RNDF_name_of, num_segments, num_zones, segment, num_lanes, end_segment, lane, num_waypoints, checkpoint, exit, end_lane_of, end_file_of}
use Rattle.grammar.specs.Network.{Network, under, SpellsNetworkBy, SpellsNetwork}
use Rattle.grammar.specs.HouseOrder.{GoodNetwork, house_network, house_segment, segment_options, house_lane, lane_options, file_options}
use Rattle.grammar.specs.Places.{rndf, name_due}
use Rattle.grammar.specs.Tables.{tables_with}
use Rattle.grammar.proofs.Written.{network-written}
use Rattle.grammar.proofs.Theorems.{network-unique}
use Rattle.text.specs.Judge as Judge
use Rattle.text.specs.Answers.{read, faulty, short}
use Rattle.text.specs.Answers as Answers
use Rattle.text.specs.RndfLines.{rndf_line_in_of, the_rndf_line_of}
use Rattle.text.specs.RndfWords.{rndf_lexis_in, rndf_lexis}
use Rattle.text.specs.Spelling as Old
use Rattle.text.proofs.TextReading.{Means, means}
use Rattle.text.proofs.Theorems.{places, read-rndf_in, read-rndf, rndf-means, rndf-file_in, rndf-file, one-rndf}
use Rattle.editions.proofs.Later.{later}
use Rattle.form_faults.proofs.FormFaults.{rndf-bad-line-right_in, rndf-unended-right_in}
use Rattle.fill.specs.Resolve.{resolve}
use Rattle.fill.specs.FirstFaults.{fault, first_fault, is_among}
use Rattle.fill.specs.FirstLines.{the_place_of}
use Rattle.walk.specs.Standing as Standing
use Rattle.line_fields.specs.LineFields as LineFields
use Rattle.find_line.proofs.Theorems.{rndf-line-there}
use Rattle.fault_lines.specs.FaultLines.{FirstRndfFault}
use Rattle.fault_lines.proofs.RndfFaults.{exit_line, checkpoint_line_of, only-undeclared, only-repeated}
use Rattle.law.specs.Network.{SpellsText}
use Rattle.edition.specs.declared.Edition.{Edition}
use Rattle.edition.specs.declared.Edition.TheVariants.{March2007, December2006}
use Rattle.edition.specs.Editions.{inner, rules_of}
use Rattle.law.specs.Network as Law
use Rattle.law.specs.Faults.{BadLine, Unended, FirstFault, RndfFault}
use Rattle.law_spelling.proofs.Texts.{rndf-to_in}
use Rattle.law_faults.proofs.Theorems.{rndf-bad-to_in, rndf-unended-to_in}
use Rattle.law_tables.proofs.RndfFirst.{rndf-first-to_in}
use Rattle.law_columns.specs.Columns.{Column}
use Rattle.law_columns.specs.Finding as Finding
use Rattle.law_columns.specs.Files.{rndf_column_in_of}
use Rattle.law_columns.proofs.Theorems.{rndf-column-bad_in, rndf-column-fault_in}
use Rattle.promises.specs.Yards.{yard, entry-3, exit_from_3, three_waypoints, one_waypoint, without_end, line_8_twice, second_line, second_lane, second_segment, position, network, network_entry_3, network_twice}

abbrev lines_with : List (Statement Field) → PointId → List (Statement Field)
lines_with cs e =
    say RNDF_name_of network.name ∷ say num_segments 1 ∷ say num_zones 0 ∷ say segment 1 ∷ say num_lanes 1 ∷ say lane (part_id 1 1) ∷ say num_waypoints 2
    ∷ (cs ++ (say exit (record { waypoint = point_id 1 1 2; entry = e }) ∷ point_line_of (point_id 1 1 1) (position 45000000 93000000) ∷ point_line_of (point_id 1 1 2) (position 45000100 93000000) ∷ say end_lane_of tt ∷ say end_segment tt ∷ say end_file_of tt ∷ []))

abbrev line_8 : Statement Field
line_8 = say checkpoint (record { waypoint = point_id 1 1 2; number = 7 })

abbrev yard-lines : List (Statement Field)
yard-lines = lines_with (line_8 ∷ []) (point_id 1 1 1)

abbrev entry_3-lines : List (Statement Field)
entry_3-lines = lines_with (line_8 ∷ []) (point_id 1 1 3)

abbrev twice-lines : List (Statement Field)
twice-lines = lines_with (line_8 ∷ line_8 ∷ []) (point_id 1 1 1)

-- their statements are the networks' house writing
house : (house_network network ≡ yard-lines) × (house_network network_entry_3 ≡ entry_3-lines) × (house_network network_twice ≡ twice-lines)
unfolding house_network file_options house_segment segment_options house_lane lane_options numbered
house = (refl, refl, refl)

-- ## What is read, by computation
record Answered (edition : Edition) : Type 0 where
  pub yard : read-rndf_in (inner edition) yard ≡ read yard-lines
  pub entry-3 : read-rndf_in (inner edition) entry-3 ≡ read entry_3-lines
  pub line_8_twice : read-rndf_in (inner edition) line_8_twice ≡ read twice-lines
  pub exit_from_3 : read-rndf_in (inner edition) exit_from_3 ≡ faulty 9 9
  pub three_waypoints : read-rndf_in (inner edition) three_waypoints ≡ faulty 12 5
  pub one_waypoint : read-rndf_in (inner edition) one_waypoint ≡ faulty 8 9
  pub without_end : read-rndf_in (inner edition) without_end ≡ short 14
  pub nothing : read-rndf_in (inner edition) [] ≡ short 1
  pub second_line : read-rndf_in (inner edition) second_line ≡ faulty 2 5
  pub second_lane : read-rndf_in (inner edition) second_lane ≡ faulty 12 9
  pub second_segment : read-rndf_in (inner edition) second_segment ≡ faulty 15 9

answered : (edition : Edition) → Answered edition
unfolding ascii Answers.read_text Answers.walk Lines.lines_of Judge.judge Lines.drop_cr Forms.form_of Forms.closes Forms.note_of Forms.outer_of Forms.fields_at Content.parted-by Allowed.separates Allowed.all Reach.two Reach.same_bytes_of Reach.begins Reach.first Reach.up_to Reach.stops_by Judge.tell Judge.read Judge.numbered Number.the_integer_of Number.plain_of Number.plain Number.worth Number.number_of Number.the_pair_of Number.triple_of Coordinate.the_coordinate_of Coordinate.the_millionths_of Word.boundary_number Word.index_of Keywords.rndf_keywords Keywords.boundary_words Machine.step Machine.guard Stands.stands
answered March2007 = record { yard = refl; entry-3 = refl; line_8_twice = refl; exit_from_3 = refl; three_waypoints = refl; one_waypoint = refl; without_end = refl; nothing = refl; second_line = refl; second_lane = refl; second_segment = refl }
answered December2006 = record { yard = refl; entry-3 = refl; line_8_twice = refl; exit_from_3 = refl; three_waypoints = refl; one_waypoint = refl; without_end = refl; nothing = refl; second_line = refl; second_lane = refl; second_segment = refl }

-- ## What is spelled: in the (rules_of edition) edition, and so in any that reads it
spelled_by : (text : Bytes) (n : Network Field) (ss : List (Statement Field)) → read-rndf text ≡ read ss → GoodNetwork n → house_network n ≡ ss → Old.SpellsRndf n text
spelled_by text n ss e good h =
    let m = subst (Means (rndf Field) rndf_lexis the_rndf_line_of SpellsNetwork name_due rndf-file text) e (rndf-means text) in
    subst (λ (x : Network Field). Old.SpellsRndf x text) (network-unique m.0 n m.1.said (house_network n) m.1.net (network-written n good) (m.2 ∙ sym h)) m.1

entry_3-read : Old.SpellsRndf network_entry_3 entry-3
entry_3-read = spelled_by entry-3 network_entry_3 entry_3-lines (answered March2007).entry-3 (omega arith) house.1

twice-read : Old.SpellsRndf network_twice line_8_twice
twice-read = spelled_by line_8_twice network_twice twice-lines (answered March2007).line_8_twice (omega arith) house.2

yard-spelled : Old.SpellsRndf network yard
yard-spelled = spelled_by yard network yard-lines (answered March2007).yard (omega arith) house.0

spelled_in : (edition : Edition) (text : Bytes) (n : Network Field) (ss : List (Statement Field)) → read-rndf_in (inner edition) text ≡ read ss → Old.SpellsRndf n text → Old.SpellsRndfIn (inner edition) n text
spelled_in edition text n ss e h =
    let d = inner edition in
    let m = subst (Means (places d) (rndf_lexis_in d) (rndf_line_in_of d) (SpellsNetworkBy (under d true)) name_due (rndf-file_in d) text) e (means (places d) (rndf_lexis_in d) (rndf_line_in_of d) (SpellsNetworkBy (under d true)) name_due (rndf-file_in d) text) in
    subst (λ (x : Network Field). Old.SpellsRndfIn d x text) (one-rndf m.0 n text (later d m.0 text m.1) h) m.1

entry_3_in : (edition : Edition) → Old.SpellsRndfIn (inner edition) network_entry_3 entry-3
entry_3_in edition = spelled_in edition entry-3 network_entry_3 entry_3-lines (answered edition).entry-3 entry_3-read

twice_in : (edition : Edition) → Old.SpellsRndfIn (inner edition) network_twice line_8_twice
twice_in edition = spelled_in edition line_8_twice network_twice twice-lines (answered edition).line_8_twice twice-read

pub record Spelled (edition : Edition) : Type 0 where
  pub yard : SpellsText (rules_of edition) Law.SpellsNetwork network yard
  pub entry-3 : SpellsText (rules_of edition) Law.SpellsNetwork network_entry_3 entry-3
  pub line_8_twice : SpellsText (rules_of edition) Law.SpellsNetwork network_twice line_8_twice

pub spelled : (edition : Edition) → Spelled edition
spelled edition = record {
  yard = rndf-to_in (inner edition) network yard (spelled_in edition yard network yard-lines (answered edition).yard yard-spelled);
  entry-3 = rndf-to_in (inner edition) network_entry_3 entry-3 (entry_3_in edition);
  line_8_twice = rndf-to_in (inner edition) network_twice line_8_twice (twice_in edition);
}

-- ## What has a fault
pub bad : (edition : Edition) (text : Bytes) (line number : ℕ) → read-rndf_in (inner edition) text ≡ faulty line number → BadLine (rules_of edition) Law.SpellsNetwork text line number
bad edition text line number e = rndf-bad-to_in (inner edition) text line number (rndf-bad-line-right_in (inner edition) text line number e)

pub open-ended : (edition : Edition) (text : Bytes) (line : ℕ) → read-rndf_in (inner edition) text ≡ short line → Unended (rules_of edition) Law.SpellsNetwork text line
open-ended edition text line e = rndf-unended-to_in (inner edition) text line (rndf-unended-right_in (inner edition) text line e)

exit-on_9 : exit_line entry-3 0 ≡ 9
unfolding ascii the_place_of Standing.standing Standing.speaks LineFields.line_fields_of Lines.lines_of Lines.drop_cr Forms.form_of Forms.closes Forms.note_of Forms.outer_of Forms.fields_at Content.parted-by Allowed.separates Allowed.all Reach.two Reach.same_bytes_of Reach.begins Reach.first Reach.up_to Reach.stops_by
exit-on_9 = rndf-line-there exit 0 entry-3 entry_3-lines (answered March2007).entry-3 (lit< tt)

wrong-entry : FirstRndfFault network_entry_3 entry-3 9 12
unfolding first_fault is_among resolve tables_with
wrong-entry = subst (λ (i : ℕ). FirstRndfFault network_entry_3 entry-3 i 12) exit-on_9 (only-undeclared network_entry_3 entry-3 entry_3-read (fault 0 12) refl refl)

checkpoint-on_9 : checkpoint_line_of line_8_twice 1 ≡ 9
unfolding ascii the_place_of Standing.standing Standing.speaks LineFields.line_fields_of Lines.lines_of Lines.drop_cr Forms.form_of Forms.closes Forms.note_of Forms.outer_of Forms.fields_at Content.parted-by Allowed.separates Allowed.all Reach.two Reach.same_bytes_of Reach.begins Reach.first Reach.up_to Reach.stops_by
checkpoint-on_9 = rndf-line-there checkpoint 1 line_8_twice twice-lines (answered March2007).line_8_twice (lit< tt)

seven-twice : FirstRndfFault network_twice line_8_twice 9 13
unfolding first_fault is_among resolve tables_with
seven-twice = subst (λ (i : ℕ). FirstRndfFault network_twice line_8_twice i 13) checkpoint-on_9 (only-repeated network_twice line_8_twice twice-read (fault 1 13) refl refl)

pub record Faults (edition : Edition) : Type 0 where
  pub entry-3 : FirstFault (rules_of edition) Law.SpellsNetwork (RndfFault network_entry_3) entry-3 9 12
  pub exit_from_3 : BadLine (rules_of edition) Law.SpellsNetwork exit_from_3 9 9
  pub three_waypoints : BadLine (rules_of edition) Law.SpellsNetwork three_waypoints 12 5
  pub one_waypoint : BadLine (rules_of edition) Law.SpellsNetwork one_waypoint 8 9
  pub without_end : Unended (rules_of edition) Law.SpellsNetwork without_end 14
  pub nothing : Unended (rules_of edition) Law.SpellsNetwork [] 1
  pub line_8_twice : FirstFault (rules_of edition) Law.SpellsNetwork (RndfFault network_twice) line_8_twice 9 13
  pub second_line : BadLine (rules_of edition) Law.SpellsNetwork second_line 2 5
  pub second_lane : BadLine (rules_of edition) Law.SpellsNetwork second_lane 12 9
  pub second_segment : BadLine (rules_of edition) Law.SpellsNetwork second_segment 15 9

pub faults : (edition : Edition) → Faults edition
faults edition = record {
  entry-3 = rndf-first-to_in (inner edition) network_entry_3 entry-3 (entry_3_in edition) 9 12 wrong-entry;
  exit_from_3 = bad edition exit_from_3 9 9 (answered edition).exit_from_3;
  three_waypoints = bad edition three_waypoints 12 5 (answered edition).three_waypoints;
  one_waypoint = bad edition one_waypoint 8 9 (answered edition).one_waypoint;
  without_end = open-ended edition without_end 14 (answered edition).without_end;
  nothing = open-ended edition [] 1 (answered edition).nothing;
  line_8_twice = rndf-first-to_in (inner edition) network_twice line_8_twice (twice_in edition) 9 13 seven-twice;
  second_line = bad edition second_line 2 5 (answered edition).second_line;
  second_lane = bad edition second_lane 12 9 (answered edition).second_lane;
  second_segment = bad edition second_segment 15 9 (answered edition).second_segment;
}

-- ## Where it stands in its line, by computation
pub record Columns (edition : Edition) : Type 0 where
  pub entry-3 : rndf_column_in_of (inner edition) entry-3 9 12 ≡ 12
  pub exit_from_3 : rndf_column_in_of (inner edition) exit_from_3 9 9 ≡ 6
  pub three_waypoints : rndf_column_in_of (inner edition) three_waypoints 12 5 ≡ 1
  pub one_waypoint : rndf_column_in_of (inner edition) one_waypoint 8 9 ≡ 12
  pub line_8_twice : rndf_column_in_of (inner edition) line_8_twice 9 13 ≡ 18

pub columns : (edition : Edition) → Columns edition
unfolding ascii Answers.read_text Answers.walk Lines.lines_of Judge.judge Lines.drop_cr Forms.form_of Forms.closes Forms.note_of Forms.outer_of Forms.fields_at Content.parted-by Allowed.separates Allowed.all Reach.two Reach.same_bytes_of Reach.begins Reach.first Reach.up_to Reach.stops_by Judge.tell Judge.read Judge.numbered Number.the_integer_of Number.plain_of Number.plain Number.worth Number.number_of Number.the_pair_of Number.triple_of Coordinate.the_coordinate_of Coordinate.the_millionths_of Word.boundary_number Word.index_of Keywords.rndf_keywords Keywords.boundary_words Machine.step Machine.guard Stands.stands Finding.wrong_at Finding.field_at Finding.column_of Finding.column_from Finding.column_in
columns March2007 = record { entry-3 = refl; exit_from_3 = refl; three_waypoints = refl; one_waypoint = refl; line_8_twice = refl }
columns December2006 = record { entry-3 = refl; exit_from_3 = refl; three_waypoints = refl; one_waypoint = refl; line_8_twice = refl }

pub bad-at : (edition : Edition) (text : Bytes) (i k c : ℕ) (b : BadLine (rules_of edition) Law.SpellsNetwork text i k) → rndf_column_in_of (inner edition) text i k ≡ c → Column (rules_of edition) Law.SpellsNetwork b.front b.this k c
bad-at edition text i k c b e = subst (Column (rules_of edition) Law.SpellsNetwork b.front b.this k) e (rndf-column-bad_in (inner edition) text i k b)

pub wrong-at : (edition : Edition) (n : Network Field) (text : Bytes) (i k c : ℕ) (f : FirstFault (rules_of edition) Law.SpellsNetwork (RndfFault n) text i k) → rndf_column_in_of (inner edition) text i k ≡ c → Column (rules_of edition) Law.SpellsNetwork f.front f.at.this k c
wrong-at edition n text i k c f e = subst (Column (rules_of edition) Law.SpellsNetwork f.front f.at.this k) e (rndf-column-fault_in (inner edition) n text i k f)
