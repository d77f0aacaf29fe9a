-- The texts of the worked pairs, by computation: the networks that they spell, in each edition, and that these are accepted. Assumes nothing.
use mathlib.Core.Path.{◌≡◌, refl, ap, subst}
use mathlib.Core.Bool.{true}
use mathlib.Core.List.{List, [], ◌∷◌, ◌++◌}
use mathlib.Core.Logic.{inl, inr}
use mathlib.Core.Option.{Option, none, some}
use Prim.Native.Nat.{ℕ}
use native.Mathlib.Omega.{arith}
use lib.Dec.{lit≤}
use lib.IntN.{pos, negsuc}
use Rattle.terms.specs.Ascii.{Bytes, ascii}
use Rattle.terms.specs.Words.{nothing, then}
use Rattle.scan.specs.Allowed as Allowed
use Rattle.scan.specs.Reach as Reach
use Rattle.line.specs.Content.{Field}
use Rattle.line.specs.Content as Content
use Rattle.line.specs.Lines as Lines
use Rattle.line.specs.Forms as Forms
use Rattle.number.specs.Executable as Number
use Rattle.coordinate.specs.Executable as Coordinate
use Rattle.word.specs.Keywords as Keywords
use Rattle.word.specs.Number as Word
use Rattle.grammar.specs.Machine as Machine
use Rattle.grammar.specs.Stands as Stands
use Rattle.grammar.specs.Statements.{Statement, Position, solid_white_of, say, point_id, part_id, point_line_of, numbered, RNDF_name_of, num_segments, num_zones, format_version_of, creation_date_of, segment, num_lanes, end_segment, lane, num_waypoints, lane_width_of, left_boundary_of, checkpoint, stop, exit, end_lane_of, end_file_of}
use Rattle.grammar.specs.Network.{Lane, Network, GoodLane, under, SpellsLane, SpellsSegment, SpellsNetworkBy, SpellsNetwork}
use Rattle.grammar.specs.Names.{network_named}
use Rattle.grammar.specs.HouseOrder.{GoodNetwork, house_network, house_segment, segment_options, house_lane, lane_options, file_options}
use Rattle.grammar.specs.Places.{rndf, name_due}
use Rattle.grammar.proofs.Written.{network-written}
use Rattle.grammar.proofs.Theorems.{network-unique}
use Rattle.text.specs.Judge as Judge
use Rattle.text.specs.Answers.{read}
use Rattle.text.specs.Answers as Answers
use Rattle.text.specs.RndfLines.{rndf_line_in_of, the_rndf_line_of}
use Rattle.text.specs.RndfWords.{rndf_lexis_in, rndf_lexis}
use Rattle.text.specs.Spelling.{Name}
use Rattle.text.specs.Spelling as Old
use Rattle.text.proofs.TextReading.{Means, means}
use Rattle.text.proofs.Theorems.{places, read-rndf_in, read-rndf, rndf-means, rndf-file_in, rndf-file, one-rndf}
use Rattle.editions.proofs.Later.{later}
use Rattle.law.specs.Network.{SpellsText}
use Rattle.law.specs.Network as Law
use Rattle.law.specs.Tables.{feet, all_lanes}
use Rattle.edition.specs.declared.Edition.{Edition}
use Rattle.edition.specs.declared.Edition.TheVariants.{March2007, December2006}
use Rattle.edition.specs.Editions.{inner, rules_of}
use Rattle.law_spelling.proofs.Texts.{rndf-to_in}
use Rattle.filed.specs.Filed.{SameButDate}
use Rattle.filed.specs.Pairs.{one, other, wider, stops_swapped}

-- ## The networks
abbrev place : ℕ → Position
place latitude = record { latitude = pos latitude; longitude = negsuc 92999999 }

abbrev field : ℕ → Bytes → Field
field start bytes = record { start = start; bytes = bytes }

abbrev lane_of : (width : ℕ) (stops : List ℕ) → Lane
lane_of width stops = record { width = some width; left = some solid_white_of; right = none; checkpoints = record { waypoint = 2; number = 7 } ∷ []; stops = stops; exits = record { waypoint = 2; entry = point_id 1 1 1 } ∷ []; points = place 0 ∷ place 45000100 ∷ [] }

abbrev pub network_of : (name version date : Field) (width : ℕ) (stops : List ℕ) → Network Field
network_of name version date width stops = record { name = name; version = some version; date = some date; segments = record { name = none; lanes = lane_of width stops ∷ [] } ∷ []; zones = [] }

abbrev pub one-version : Field
one-version = field 59 (ascii "1.0")

abbrev pub one-date : Field
one-date = field 77 (ascii "1-Mar-2007")

abbrev plain-network : (width : ℕ) (stops : List ℕ) → Network Field
plain-network = network_of (field 10 (ascii "yard_b")) one-version one-date

abbrev pub of_one : Network Field
of_one = plain-network 12 (2 ∷ 1 ∷ [])

abbrev pub of-wider : Network Field
of-wider = plain-network 13 (2 ∷ 1 ∷ [])

abbrev pub of-swapped : Network Field
of-swapped = plain-network 12 (1 ∷ 2 ∷ [])

abbrev other_name : Field
other_name = field 52 (ascii "yard_b")

abbrev pub other_version : Field
other_version = field 138 (ascii "1.0")

abbrev pub other-date : Field
other-date = field 116 (ascii "today")

abbrev pub of_other : Network Field
of_other = network_of other_name other_version other-date 12 (2 ∷ 1 ∷ [])

-- ## The statements of the one that is not in house order
abbrev other-options : List (Statement Field)
other-options =
    say stop (point_id 1 1 2)
    ∷ say exit (record { waypoint = point_id 1 1 2; entry = point_id 1 1 1 })
    ∷ say checkpoint (record { waypoint = point_id 1 1 2; number = 7 })
    ∷ say stop (point_id 1 1 1)
    ∷ say left_boundary_of solid_white_of
    ∷ say lane_width_of 12
    ∷ []

abbrev other-lane : List (Statement Field)
other-lane = say lane (part_id 1 1) ∷ say num_waypoints 2 ∷ other-options ++ (point_line_of (point_id 1 1 1) (place 0) ∷ point_line_of (point_id 1 1 2) (place 45000100) ∷ say end_lane_of tt ∷ [])

abbrev other-lines : List (Statement Field)
other-lines =
    say RNDF_name_of other_name ∷ say num_segments 1 ∷ say num_zones 0 ∷ say creation_date_of other-date ∷ say format_version_of other_version
    ∷ say segment 1 ∷ say num_lanes 1 ∷ other-lane ++ (say end_segment tt ∷ say end_file_of tt ∷ [])

-- ## What is read, by computation
record Answered (edition : Edition) : Type 0 where
  pub one : read-rndf_in (inner edition) one ≡ read (house_network of_one)
  pub other : read-rndf_in (inner edition) other ≡ read other-lines
  pub wider : read-rndf_in (inner edition) wider ≡ read (house_network of-wider)
  pub stops_swapped : read-rndf_in (inner edition) stops_swapped ≡ read (house_network of-swapped)

answered : (edition : Edition) → Answered edition
unfolding house_network file_options house_segment segment_options house_lane lane_options numbered ascii Answers.read_text Answers.walk Lines.lines_of Judge.judge Lines.drop_cr Forms.form_of Forms.closes Forms.note_of Forms.outer_of Forms.fields_at Content.parted-by Allowed.separates Allowed.all Reach.two Reach.same_bytes_of Reach.begins Reach.first Reach.up_to Reach.stops_by Judge.tell Judge.read Judge.numbered Number.the_integer_of Number.plain_of Number.plain Number.worth Number.number_of Number.the_pair_of Number.triple_of Coordinate.the_coordinate_of Coordinate.the_millionths_of Word.boundary_number Word.index_of Keywords.rndf_keywords Keywords.boundary_words Machine.step Machine.guard Stands.stands
answered March2007 = record { one = refl; other = refl; wider = refl; stops_swapped = refl }
answered December2006 = record { one = refl; other = refl; wider = refl; stops_swapped = refl }

-- ## What is spelled: in the present edition, and so in any that reads it
spelled_by : (text : Bytes) (n : Network Field) (ss : List (Statement Field)) → read-rndf text ≡ read ss → SpellsNetwork n ss → Old.SpellsRndf n text
spelled_by text n ss e g =
    let m = subst (Means (rndf Field) rndf_lexis the_rndf_line_of SpellsNetwork name_due rndf-file text) e (rndf-means text) in
    subst (λ (x : Network Field). Old.SpellsRndf x text) (network-unique m.0 n m.1.said ss m.1.net g m.2) m.1

spelled_in : (edition : Edition) (text : Bytes) (n : Network Field) (ss : List (Statement Field)) → read-rndf_in (inner edition) text ≡ read ss → Old.SpellsRndf n text → SpellsText (rules_of edition) Law.SpellsNetwork n text
spelled_in edition text n ss e h =
    let d = inner edition in
    let m = subst (Means (places d) (rndf_lexis_in d) (rndf_line_in_of d) (SpellsNetworkBy (under d true)) name_due (rndf-file_in d) text) e (means (places d) (rndf_lexis_in d) (rndf_line_in_of d) (SpellsNetworkBy (under d true)) name_due (rndf-file_in d) text) in
    rndf-to_in d n text (subst (λ (x : Network Field). Old.SpellsRndfIn d x text) (one-rndf m.0 n text (later d m.0 text m.1) h) m.1)

other_spells : SpellsNetwork of_other other-lines
unfolding numbered ascii
other_spells =
    let spelled-lane : SpellsLane 1 1 (lane_of 12 (2 ∷ 1 ∷ [])) other-lane = record {
      options = other-options;
      given = record { width = refl; left = refl; right = refl; checkpoints = refl; stops = refl; exits = refl; no_other = (inr (inr (inr (inr (inl refl)))), (inr (inr (inr (inr (inr (inl refl))))), (inr (inr (inr (inl refl))), (inr (inr (inr (inr (inl refl)))), (inr (inl refl), (inl refl, tt)))))) };
      good = omega arith;
      spelled = refl;
    } in
    let spelled-segment : SpellsSegment 1 (record { name = none; lanes = lane_of 12 (2 ∷ 1 ∷ []) ∷ [] }) (say segment 1 ∷ say num_lanes 1 ∷ other-lane ++ (say end_segment tt ∷ [])) = record {
      options = [];
      lanes = other-lane;
      given = record { name = refl; no_other = tt };
      count = omega arith;
      each = then spelled-lane nothing;
      spelled = refl;
    } in
    record {
      options = say creation_date_of other-date ∷ say format_version_of other_version ∷ [];
      segments = say segment 1 ∷ say num_lanes 1 ∷ other-lane ++ (say end_segment tt ∷ []);
      zones = [];
      given = record { version = refl; date = refl; no_other = (inr (inl refl), (inl refl, tt)) };
      some-segment = lit≤ tt;
      count = lit≤ tt;
      each_segment = then spelled-segment nothing;
      each_zone = nothing;
      spelled = refl;
    }

pub record Spelled (edition : Edition) : Type 0 where
  pub one : SpellsText (rules_of edition) Law.SpellsNetwork of_one one
  pub other : SpellsText (rules_of edition) Law.SpellsNetwork of_other other
  pub wider : SpellsText (rules_of edition) Law.SpellsNetwork of-wider wider
  pub stops_swapped : SpellsText (rules_of edition) Law.SpellsNetwork of-swapped stops_swapped

pub spelled : (edition : Edition) → Spelled edition
spelled edition =
    let m = answered March2007 in
    let a = answered edition in
    record {
      one = spelled_in edition one of_one (house_network of_one) a.one (spelled_by one of_one (house_network of_one) m.one (network-written of_one (omega arith)));
      other = spelled_in edition other of_other other-lines a.other (spelled_by other of_other other-lines m.other other_spells);
      wider = spelled_in edition wider of-wider (house_network of-wider) a.wider (spelled_by wider of-wider (house_network of-wider) m.wider (network-written of-wider (omega arith)));
      stops_swapped = spelled_in edition stops_swapped of-swapped (house_network of-swapped) a.stops_swapped (spelled_by stops_swapped of-swapped (house_network of-swapped) m.stops_swapped (network-written of-swapped (omega arith)));
    }

-- ## What is the same, and what is not: what the first lane has
abbrev first_width : List Lane → ℕ
first_width [] = 0
first_width (a ∷ l) = feet a.width

abbrev head_of : List ℕ → ℕ
head_of [] = 0
head_of (i ∷ l) = i

abbrev first-stop : List Lane → ℕ
first-stop [] = 0
first-stop (a ∷ l) = head_of a.stops

pub same_networks : SameButDate of_one of_other
unfolding network_named ascii
same_networks = refl

pub other_width : SameButDate of_one of-wider → ⊥
unfolding network_named
other_width e = let z : ◌≡◌ {A = ℕ} 12 13 = ap (λ (n : Network Name). first_width (all_lanes n)) e in omega arith

pub other-stops : SameButDate of_one of-swapped → ⊥
unfolding network_named
other-stops e = let z : ◌≡◌ {A = ℕ} 2 1 = ap (λ (n : Network Name). first-stop (all_lanes n)) e in omega arith
