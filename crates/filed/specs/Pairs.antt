-- WHAT A READER MUST BELIEVE. Texts in pairs: two that differ in everything but what they mean, two that differ in one option, two in the order of stops. Document 02, L14. Assumes nothing.
use Rattle.std.specs.Prelude.{◌≡◌, ◌∷◌, ◌++◌}
use Rattle.terms.specs.Words.{List, [], ℕ, String, Bytes, ascii}
use Rattle.edition.specs.declared.Edition.{Edition}
use Rattle.edition.specs.Editions.{rules_of}
use Rattle.filed.specs.Filed.{Filed}

-- with these lines for the lane's width, and for its stops
abbrev changed : (width stops : String) → Bytes
changed width stops =
    ascii "RNDF_name\tyard_b\nnum_segments\t1\nnum_zones\t0\nformat_version\t1.0\ncreation_date\t1-Mar-2007\nsegment\t1\nnum_lanes\t1\nlane\t1.1\nnum_waypoints\t2\n"
    ++ (ascii width ++ (ascii "left_boundary\tsolid_white\ncheckpoint\t1.1.2\t7\n" ++ (ascii stops ++ ascii "exit\t1.1.2\t1.1.1\n1.1.1\t0.000000\t-93.000000\n1.1.2\t45.000100\t-93.000000\nend_lane\nend_segment\nend_file\n")))

abbrev pub one : Bytes
one = changed "lane_width\t12\n" "stop\t1.1.2\nstop\t1.1.1\n"

-- another date; comments, a blank line, CRs, spaces and no last LF; options in another order, but for the stops; a zero with a sign
abbrev pub other : Bytes
other =
    ascii "/* the same yard, by another hand */\r\n\r\nRNDF_name   yard_b\r\n num_segments 1\r\nnum_zones\t\t0 /* none */\r\n"
    ++ (ascii "creation_date today\r\nformat_version 1.0\r\nsegment 1\r\nnum_lanes 1\r\nlane 1.1\t\r\nnum_waypoints 2 /* from west to east */\r\n"
    ++ (ascii "stop 1.1.2\r\nexit 1.1.2 1.1.1\r\ncheckpoint 1.1.2 7\r\nstop 1.1.1\r\nleft_boundary solid_white\r\nlane_width 12\r\n"
    ++ ascii "1.1.1 -0.000000 -93.000000\r\n1.1.2 45.000100 -93.000000\r\nend_lane\r\nend_segment\r\nend_file"))

abbrev pub wider : Bytes
wider = changed "lane_width\t13\n" "stop\t1.1.2\nstop\t1.1.1\n"

-- 01: "repeats in file order within their kind"
abbrev pub stops_swapped : Bytes
stops_swapped = changed "lane_width\t12\n" "stop\t1.1.1\nstop\t1.1.2\n"

-- what is written of the two, each by some edition, in some tables and some output, whatever meets the writer's contract: it is the same, or it is not; and each of them is written
abbrev pub EqualWritings : (text text' : Bytes) → Type 0
EqualWritings text text' = (edition edition' : Edition) (writing writing' : Bytes) → Filed (rules_of edition) text writing → Filed (rules_of edition') text' writing' → writing ≡ writing'

abbrev pub OtherWritings : (text text' : Bytes) → Type 0
OtherWritings text text' = (edition edition' : Edition) (writing writing' : Bytes) → Filed (rules_of edition) text writing → Filed (rules_of edition') text' writing' → writing ≡ writing' → ⊥

abbrev pub Written : Edition → Bytes → Type 0
Written edition text = (writing : Bytes) × Filed (rules_of edition) text writing

pub record Worked : Type 0 where
  pub same : EqualWritings one other
  pub width : OtherWritings one wider
  pub stops : OtherWritings one stops_swapped
  pub each : (edition : Edition) → Written edition one × Written edition other × Written edition wider × Written edition stops_swapped
