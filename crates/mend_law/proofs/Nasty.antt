-- The mending tool on texts that are easy to get wrong, by computation: `end_file` early, in a comment or behind a blank; a count's end word with a comment, or a longer word; a CR before the last; parts opened again; what may repeat where. Assumes nothing.
use mathlib.Core.Path.{◌≡◌, refl}
use Rattle.terms.specs.Words.{[], ◌∷◌, ◌++◌, List, ℕ, String, Bytes, ascii}
use Rattle.scan.specs.Allowed as Allowed
use Rattle.scan.specs.Reach as Reach
use Rattle.line.specs.Line as Line
use Rattle.line.specs.Lines as Lines
use Rattle.line.specs.Forms as Forms
use Rattle.number.specs.Decimal as Decimal
use Rattle.number.specs.Executable as Number
use Rattle.mend_law.specs.Mend as M
use Rattle.mend_law.specs.Mend.{mended_text, listed_rows}
use Rattle.mend_law.proofs.Samples.{Sample}

pub record Nasty : Type 0 where
  pub early : Sample "num_segments\t2\nsegment\nend_file\nsegment\nend_file\n" "num_segments\t1\nsegment\nend_file\n" ((1 ∷ 1 ∷ []) ∷ (4 ∷ 3 ∷ []) ∷ (5 ∷ 3 ∷ []) ∷ [])
  pub open_note : Sample "num_lanes\t1/*\t9\nlane\nlane\nend_segment" "num_lanes\t2/*\t9\nlane\nlane\nend_segment" ((1 ∷ 1 ∷ []) ∷ [])
  pub end_note : Sample "num_waypoints\t0\n1\n\tend_lane/* */\n2\n" "num_waypoints\t1\n1\n\tend_lane/* */\n2\n" ((1 ∷ 1 ∷ []) ∷ [])
  pub longer_word : Sample "num_waypoints\t1\n1\nend_lanes\n2\nend_lane" "num_waypoints\t2\n1\nend_lanes\n2\nend_lane" ((1 ∷ 1 ∷ []) ∷ [])
  pub cr_word : Sample "lane\r\r\nlane_width\t1\nlane_width\t2\n" "lane\r\r\nlane_width\t1\n" ((3 ∷ 2 ∷ []) ∷ [])
  pub reopened : Sample "lane_width\nlane\nlane_width\nlane_width\n" "lane_width\nlane\nlane_width\n" ((4 ∷ 2 ∷ []) ∷ [])
  pub spot_exits : Sample "spot\nexit\nexit\n" "spot\nexit\n" ((3 ∷ 2 ∷ []) ∷ [])
  pub last_cr : Sample "end_file\nx\r" "end_file\n" ((2 ∷ 3 ∷ []) ∷ [])
  pub in_note : Sample "/* end_file\nend_file\nx" "/* end_file\nend_file\n" ((3 ∷ 3 ∷ []) ∷ [])
  pub end_first : Sample "num_spots\t1\nend_file\nspot\nend_zone\n" "num_spots\t1\nend_file\n" ((3 ∷ 3 ∷ []) ∷ (4 ∷ 3 ∷ []) ∷ [])
  pub thrice : Sample "spot\nspot_width\ncheckpoint\nspot_width\t1\t2\n1\ncheckpoint\\\nend_spot\nspot_width" "spot\nspot_width\ncheckpoint\n1\ncheckpoint\\\nend_spot\n" ((4 ∷ 2 ∷ []) ∷ (8 ∷ 2 ∷ []) ∷ [])
  -- a space separates: `zone x` is an item, `end_file x` ends; of two numbers no count is made
  pub with_more : Sample "num_zones\t1\t/*\nzone\nzone x\nend_file x" "num_zones\t2\t/*\nzone\nzone x\nend_file x" ((1 ∷ 1 ∷ []) ∷ [])
  pub two_numbers : Sample "num_zones 1 1\nend_file" "num_zones 1 1\nend_file" []

pub nasty : Nasty
unfolding ascii mended_text listed_rows M.first_field M.items M.since M.change M.changes_from Lines.lines_of Lines.drop_cr Forms.outer_of Forms.fields_at Line.parted Allowed.separates Allowed.all Reach.two Reach.first Reach.begins Reach.same_bytes_of Decimal.decimal Decimal.spell Number.worth Number.plain Number.plain_of Number.the_integer_of
nasty = record {
  early = record { comes_out = refl; lists = refl };
  open_note = record { comes_out = refl; lists = refl };
  end_note = record { comes_out = refl; lists = refl };
  longer_word = record { comes_out = refl; lists = refl };
  cr_word = record { comes_out = refl; lists = refl };
  reopened = record { comes_out = refl; lists = refl };
  spot_exits = record { comes_out = refl; lists = refl };
  last_cr = record { comes_out = refl; lists = refl };
  in_note = record { comes_out = refl; lists = refl };
  end_first = record { comes_out = refl; lists = refl };
  thrice = record { comes_out = refl; lists = refl };
  with_more = record { comes_out = refl; lists = refl };
  two_numbers = record { comes_out = refl; lists = refl };
}
