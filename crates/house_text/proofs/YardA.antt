-- Yard A by computation: the house writing of its network and of its mission is its RNDF and its MDF, byte for byte, wherever their names stood. Document 01, "Yard A". Assumes nothing.
use mathlib.Core.Path.{◌≡◌, refl}
use Prim.Native.Nat.{ℕ}
use Rattle.terms.specs.Ascii.{ascii}
use Rattle.line.specs.Content.{at}
use Rattle.number.specs.Decimal.{spell, decimal, padded}
use Rattle.number.specs.House.{house_integer, house_pair, house_triple}
use Rattle.coordinate.specs.House.{house_degrees, house_coordinate}
use Rattle.grammar.specs.Statements.{numbered}
use Rattle.grammar.specs.HouseOrder.{house_network, file_options, house_segment, segment_options, house_lane, lane_options, house_mission, mission_options}
use Rattle.grammar.proofs.YardA.{yard_a, round}
use Rattle.text.specs.HouseLine.{house_field, tabbed}
use Rattle.text.specs.RndfLines.{rndf_line_in_of, the_rndf_line_of}
use Rattle.text.specs.MdfLines.{the_mdf_line_of}
use Rattle.house_text.specs.HouseText.{house_text_of, house_rndf, house_mdf}

pub yard-written : (a b : ℕ) → house_rndf (yard_a (at a (ascii "yard_a")) (at b (ascii "round_1")))
    ≡ ascii "RNDF_name\tyard_a\nnum_segments\t1\nnum_zones\t0\nsegment\t1\nnum_lanes\t1\nlane\t1.1\nnum_waypoints\t2\ncheckpoint\t1.1.2\t7\nexit\t1.1.2\t1.1.1\n1.1.1\t45.000000\t-93.000000\n1.1.2\t45.000100\t-93.000000\nend_lane\nend_segment\nend_file\n"
unfolding house_rndf house_text_of house_network file_options house_segment segment_options house_lane lane_options numbered rndf_line_in_of house_field tabbed ascii house_integer house_pair house_triple house_degrees house_coordinate decimal spell padded
yard-written a b = refl

pub round-written : (a b : ℕ) → house_mdf (round (at a (ascii "yard_a")) (at b (ascii "round_1")) 7)
    ≡ ascii "MDF_name\tround_1\nRNDF\tyard_a\ncheckpoints\nnum_checkpoints\t1\n7\nend_checkpoints\nspeed_limits\nnum_speed_limits\t1\n1\t0\t15\nend_speed_limits\nend_file\n"
unfolding house_mdf house_text_of house_mission mission_options the_mdf_line_of house_field tabbed ascii house_integer decimal spell
round-written a b = refl
