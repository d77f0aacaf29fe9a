-- Executable: how the statements of an RNDF are made out. Assumes nothing.
use Rattle.std.specs.Prelude.{List, [], ◌∷◌, ℕ}
use Rattle.std.proofs.Math.Option.{Option}
use Rattle.terms.specs.Ascii.{Bytes}
use Rattle.line.specs.Content.{Field}
use Rattle.word.specs.Keywords.{rndf_keywords}
use Rattle.word.specs.Number.{index_of}
use Rattle.grammar.specs.Editions.{Edition, march}
use Rattle.grammar.specs.Statements.{Kind, Says, lines, RNDF_name_of, num_segments, num_zones, format_version_of, creation_date_of, segment, num_lanes, segment_name_of, end_segment, lane, num_waypoints, lane_width_of, left_boundary_of, right_boundary_of, checkpoint, stop, exit, end_lane_of, zone, num_spots, zone_name_of, end_zone, perimeter, num_perimeterpoints, end_perimeter, spot, spot_width_of, end_spot, end_file_of, point}
use Rattle.grammar.specs.PlaceRows.{kinds, kind_row}
use Rattle.text.specs.KeywordRows.{of_row}
use Rattle.text.specs.Judge.{Sort, a_name, an_integer, a_pair, a_triple, a_coordinate, a_boundary, Vals, Lexis}

-- the keyword of a row; the rows behind the keywords have none
abbrev pub word_at : ℕ → Option Bytes
word_at i = of_row 29 rndf_keywords [] i

abbrev pub kind_at_of : ℕ → Option Kind
kind_at_of i = of_row 29 kinds point i

abbrev pub rndf_sorts_in : Edition → Kind → List Sort
rndf_sorts_in e RNDF_name_of = a_name ∷ []
rndf_sorts_in e num_segments = an_integer ∷ []
rndf_sorts_in e num_zones = an_integer ∷ []
rndf_sorts_in e format_version_of = a_name ∷ []
rndf_sorts_in e creation_date_of = a_name ∷ []
rndf_sorts_in e segment = an_integer ∷ []
rndf_sorts_in e num_lanes = an_integer ∷ []
rndf_sorts_in e segment_name_of = a_name ∷ []
rndf_sorts_in e end_segment = []
rndf_sorts_in e lane = a_pair ∷ []
rndf_sorts_in e num_waypoints = an_integer ∷ []
rndf_sorts_in e lane_width_of = an_integer ∷ []
rndf_sorts_in e left_boundary_of = a_boundary e ∷ []
rndf_sorts_in e right_boundary_of = a_boundary e ∷ []
rndf_sorts_in e checkpoint = a_triple ∷ an_integer ∷ []
rndf_sorts_in e stop = a_triple ∷ []
rndf_sorts_in e exit = a_triple ∷ a_triple ∷ []
rndf_sorts_in e end_lane_of = []
rndf_sorts_in e zone = an_integer ∷ []
rndf_sorts_in e num_spots = an_integer ∷ []
rndf_sorts_in e zone_name_of = a_name ∷ []
rndf_sorts_in e end_zone = []
rndf_sorts_in e perimeter = a_pair ∷ []
rndf_sorts_in e num_perimeterpoints = an_integer ∷ []
rndf_sorts_in e end_perimeter = []
rndf_sorts_in e spot = a_pair ∷ []
rndf_sorts_in e spot_width_of = an_integer ∷ []
rndf_sorts_in e end_spot = []
rndf_sorts_in e end_file_of = []
rndf_sorts_in e point = a_triple ∷ a_coordinate ∷ a_coordinate ∷ []

abbrev pub rndf_make_in : (e : Edition) (k : Kind) → Vals (rndf_sorts_in e k) → Says Field k
rndf_make_in e RNDF_name_of v = v.0
rndf_make_in e num_segments v = v.0
rndf_make_in e num_zones v = v.0
rndf_make_in e format_version_of v = v.0
rndf_make_in e creation_date_of v = v.0
rndf_make_in e segment v = v.0
rndf_make_in e num_lanes v = v.0
rndf_make_in e segment_name_of v = v.0
rndf_make_in e end_segment v = tt
rndf_make_in e lane v = v.0
rndf_make_in e num_waypoints v = v.0
rndf_make_in e lane_width_of v = v.0
rndf_make_in e left_boundary_of v = v.0
rndf_make_in e right_boundary_of v = v.0
rndf_make_in e checkpoint v = record { waypoint = v.0; number = v.1.0 }
rndf_make_in e stop v = v.0
rndf_make_in e exit v = record { waypoint = v.0; entry = v.1.0 }
rndf_make_in e end_lane_of v = tt
rndf_make_in e zone v = v.0
rndf_make_in e num_spots v = v.0
rndf_make_in e zone_name_of v = v.0
rndf_make_in e end_zone v = tt
rndf_make_in e perimeter v = v.0
rndf_make_in e num_perimeterpoints v = v.0
rndf_make_in e end_perimeter v = tt
rndf_make_in e spot v = v.0
rndf_make_in e spot_width_of v = v.0
rndf_make_in e end_spot v = tt
rndf_make_in e end_file_of v = tt
rndf_make_in e point v = record { id = v.0; position = record { latitude = v.1.0; longitude = v.1.1.0 } }

abbrev pub rndf_lexis_in : Edition → Lexis (lines Field)
rndf_lexis_in e = record { keyword = λ k. word_at (kind_row k); sorts = rndf_sorts_in e; make = rndf_make_in e; lookup = λ w. kind_at_of (index_of w rndf_keywords) }

-- in the present edition
abbrev pub rndf_sorts : Kind → List Sort
rndf_sorts = rndf_sorts_in march

abbrev pub rndf_make : (k : Kind) → Vals (rndf_sorts k) → Says Field k
rndf_make = rndf_make_in march

abbrev pub rndf_lexis : Lexis (lines Field)
rndf_lexis = rndf_lexis_in march
