-- The mending tool on small texts, by computation. Assumes nothing.
use mathlib.Core.Path.{◌≡◌, refl}
use Rattle.terms.specs.Words.{[], ◌∷◌, ◌++◌, List, ℕ, String, Bytes, ascii}
use Rattle.scan.specs.Allowed as Allowed
use Rattle.scan.specs.Reach as Reach
use Rattle.line.specs.Line as Line
use Rattle.line.specs.Lines as Lines
use Rattle.line.specs.Forms as Forms
use Rattle.number.specs.Decimal as Decimal
use Rattle.number.specs.Executable as Number
use Rattle.mend_law.specs.Mend as M
use Rattle.mend_law.specs.Mend.{mended_text, listed_rows}

-- a text, what comes out and what is listed
pub record Sample (text out : String) (list : List (List ℕ)) : Type 0 where
  pub comes_out : mended_text (ascii text) ≡ ascii out
  pub lists : listed_rows (ascii text) ≡ list

-- only the number, with what stands around it; 12 items; no final LF
-- a count of two numbers, of 32,769, of 01, or without its end word and right already: stays
pub record Samples : Type 0 where
  pub count : Sample "num_waypoints\t\t3/* 2 */\r\n1\n2.\nx\nend_lane" "num_waypoints\t\t2/* 2 */\r\n1\n2.\nx\nend_lane" ((1 ∷ 1 ∷ []) ∷ [])
  pub longer : Sample "\tnum_lanes\t0\t\nlane\nlane\nlane\nlane\nlane\nlane\nlane\nlane\nlane\nlane\nend_segment\nlane" "\tnum_lanes\t10\t\nlane\nlane\nlane\nlane\nlane\nlane\nlane\nlane\nlane\nlane\nend_segment\nlane" ((1 ∷ 1 ∷ []) ∷ [])
  pub no_good_integer : Sample "num_spots\t32769\nnum_spots\t01\nnum_spots\t1\t1\nnum_spots\nend_zone" "num_spots\t32769\nnum_spots\t01\nnum_spots\t1\t1\nnum_spots\nend_zone" []
  pub largest : Sample "num_segments\t32768\nsegment\n" "num_segments\t1\nsegment\n" ((1 ∷ 1 ∷ []) ∷ [])
  pub option : Sample "lane\nlane_width\nlane_width\t3\ncheckpoint\ncheckpoint\nend_lane\nlane_width\nlane\nlane_width\n" "lane\nlane_width\ncheckpoint\ncheckpoint\nend_lane\nlane\nlane_width\n" ((3 ∷ 2 ∷ []) ∷ (7 ∷ 2 ∷ []) ∷ [])
  pub spot : Sample "spot\ncheckpoint\ncheckpoint\nspot\ncheckpoint\n" "spot\ncheckpoint\nspot\ncheckpoint\n" ((3 ∷ 2 ∷ []) ∷ [])
  pub behind : Sample "end_file\r\n\n/* */ x\n\t\r\nnum_lanes\t1\n\r\r\nend_file" "end_file\r\n\n/* */ x\n\t\r\n" ((5 ∷ 3 ∷ []) ∷ (6 ∷ 3 ∷ []) ∷ (7 ∷ 3 ∷ []) ∷ [])
  -- L3: spaces separate too; a field's place is by bytes, and what stands around the number stays
  pub spaces : Sample "  num_waypoints \t 3 /* 3 */ \n 1 \n\t2.\n x\n end_lane \nend_file\n /* */\n \n" "  num_waypoints \t 2 /* 3 */ \n 1 \n\t2.\n x\n end_lane \nend_file\n /* */\n \n" ((1 ∷ 1 ∷ []) ∷ [])
  -- yard A, and with all three troubles
  pub yard : Sample "RNDF_name\tyard_a\nnum_segments\t1\nnum_zones\t0\nsegment\t1\nnum_lanes\t1\nlane\t1.1\nnum_waypoints\t2\ncheckpoint\t1.1.2\t7\nexit\t1.1.2\t1.1.1\n1.1.1\t45.000000\t-93.000000\n1.1.2\t45.000100\t-93.000000\nend_lane\nend_segment\nend_file\n" "RNDF_name\tyard_a\nnum_segments\t1\nnum_zones\t0\nsegment\t1\nnum_lanes\t1\nlane\t1.1\nnum_waypoints\t2\ncheckpoint\t1.1.2\t7\nexit\t1.1.2\t1.1.1\n1.1.1\t45.000000\t-93.000000\n1.1.2\t45.000100\t-93.000000\nend_lane\nend_segment\nend_file\n" []
  pub damaged : Sample "RNDF_name\tyard_a\nnum_segments\t1\nnum_zones\t4\nsegment\t1\nnum_lanes\t1\nlane\t1.1\nnum_waypoints\t3\nlane_width\t9\nlane_width\t9\ncheckpoint\t1.1.2\t7\nexit\t1.1.2\t1.1.1\n1.1.1\t45.000000\t-93.000000\n1.1.2\t45.000100\t-93.000000\nend_lane\nend_segment\nend_file\n\nend_file\n" "RNDF_name\tyard_a\nnum_segments\t1\nnum_zones\t0\nsegment\t1\nnum_lanes\t1\nlane\t1.1\nnum_waypoints\t2\nlane_width\t9\ncheckpoint\t1.1.2\t7\nexit\t1.1.2\t1.1.1\n1.1.1\t45.000000\t-93.000000\n1.1.2\t45.000100\t-93.000000\nend_lane\nend_segment\nend_file\n\n" ((3 ∷ 1 ∷ []) ∷ (7 ∷ 1 ∷ []) ∷ (9 ∷ 2 ∷ []) ∷ (18 ∷ 3 ∷ []) ∷ [])

pub samples : Samples
unfolding ascii mended_text listed_rows M.first_field M.items M.since M.change M.changes_from Lines.lines_of Lines.drop_cr Forms.outer_of Forms.fields_at Line.parted Allowed.separates Allowed.all Reach.two Reach.first Reach.begins Reach.same_bytes_of Decimal.decimal Decimal.spell Number.worth Number.plain Number.plain_of Number.the_integer_of
samples = record {
  count = record { comes_out = refl; lists = refl };
  longer = record { comes_out = refl; lists = refl };
  no_good_integer = record { comes_out = refl; lists = refl };
  largest = record { comes_out = refl; lists = refl };
  option = record { comes_out = refl; lists = refl };
  spot = record { comes_out = refl; lists = refl };
  behind = record { comes_out = refl; lists = refl };
  spaces = record { comes_out = refl; lists = refl };
  yard = record { comes_out = refl; lists = refl };
  damaged = record { comes_out = refl; lists = refl };
}
