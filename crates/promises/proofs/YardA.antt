-- YARD A'S RNDF alone, from the contract of `read_rndf`, in each edition: what it gets, and what one change of it each gets. Document 01, "Yard A". Assumes nothing.
use Rattle.std.specs.Prelude.{Ok}
use Rattle.replies.specs.Types.{RndfReply}
use mathlib.Core.Path.{◌≡◌, refl, ◌∙◌}
use mathlib.Core.List.{[]}
use Prim.Native.Nat.{ℕ, ◌≤◌}
use native.Mathlib.Omega.{arith}
use lib.Dec.{lit≤}
use lib.ListN.{length}
use Rattle.terms.specs.Ascii.{Bytes, ascii}
use Rattle.law.specs.Tables.{Lent, HasRoom, filled}
use Rattle.law.specs.Faults.{Sound, waypoint, first}
use Rattle.replies.specs.Replies.{longest, bad_line, unended, bad_reference, rows_used_of, network_file, ReadsRndf}
use Rattle.replies.specs.Short.{AcceptsRndf, RefusesRndf}
use Rattle.edition.specs.declared.Edition.{Edition}
use Rattle.edition.specs.Editions.{inner, rules_of}
use Rattle.law_columns.specs.Files.{rndf_column_in_of}
use Rattle.law_columns.proofs.Theorems.{rndf-column-bad_in}
use Rattle.promises.specs.Yards.{yard, entry-3, exit_from_3, three_waypoints, one_waypoint, without_end, line_8_twice, second_line, second_lane, second_segment, network, network_entry_3, network_twice, counts, yard_file, used, yard_words}
use Rattle.promises.specs.Cases.{Refused}
use Rattle.promises.proofs.Promises.{spelled-accepted, refusal-only}
use Rattle.promises.proofs.YardTexts.{spelled, faults, columns, bad-at, wrong-at}

-- ## Sizes
record Small : Type 0 where
  pub yard : length yard ≤ longest
  pub entry-3 : length entry-3 ≤ longest
  pub line_8_twice : length line_8_twice ≤ longest
  pub exit_from_3 : length exit_from_3 ≤ longest
  pub three_waypoints : length three_waypoints ≤ longest
  pub one_waypoint : length one_waypoint ≤ longest
  pub without_end : length without_end ≤ longest
  pub second_line : length second_line ≤ longest
  pub second_lane : length second_lane ≤ longest
  pub second_segment : length second_segment ≤ longest

small : Small
unfolding ascii
small = record { yard = lit≤ tt; entry-3 = lit≤ tt; line_8_twice = lit≤ tt; exit_from_3 = lit≤ tt; three_waypoints = lit≤ tt; one_waypoint = lit≤ tt; without_end = lit≤ tt; second_line = lit≤ tt; second_lane = lit≤ tt; second_segment = lit≤ tt }

-- ## Yard A is taken, where there is room for its rows
right : Sound network
right = record { entries = (waypoint _ _ first first (record { low = omega arith; high = omega arith }), tt); numbers = ((λ a. a), tt) }

pub yard-taken : (edition : Edition) (t : Lent) → HasRoom network t → AcceptsRndf (rules_of edition) yard t network
yard-taken edition t room = record { size = small.yard; spelled = (spelled edition).yard; room = room; right = right }

pub replied : (rows_used_of network ≡ counts) × (network_file network ≡ yard_file)
unfolding ascii
replied = (refl, refl)

pub yard-accepted : (edition : Edition) (t : Lent) (r : RndfReply) (l : Lent) → ReadsRndf (rules_of edition) yard t r l → HasRoom network t → (r ≡ Ok (counts, yard_file)) × (l ≡ filled network t)
yard-accepted edition t r l x room =
    let a = spelled-accepted edition yard t r l x network (yard-taken edition t room) in
    (a.0 ∙ (λ i. Ok (replied.0 i, replied.1 i)), a.1)

-- its words, in tables that were in use
pub room_in-used : HasRoom network used
room_in-used = record { segments = lit≤ tt; lanes = lit≤ tt; zones = lit≤ tt; spots = lit≤ tt; points = lit≤ tt; checkpoints = lit≤ tt; stops = lit≤ tt; exits = lit≤ tt }

pub words_are : filled network used ≡ yard_words
words_are = refl

pub yard-read : (edition : Edition) (r : RndfReply) (l : Lent) → ReadsRndf (rules_of edition) yard used r l → (r ≡ Ok (counts, yard_file)) × (l ≡ yard_words)
yard-read edition r l x = let a = yard-accepted edition used r l x room_in-used in (a.0, a.1 ∙ words_are)

-- ## One change each
-- room for line 8 twice is room for the others
pub less-room : (t : Lent) → HasRoom network_twice t → HasRoom network t × HasRoom network_entry_3 t
less-room t room =
    let one : HasRoom network t = record { segments = room.segments; lanes = room.lanes; zones = room.zones; spots = room.spots; points = room.points; checkpoints = let h = room.checkpoints in omega arith; stops = room.stops; exits = room.exits } in
    (one, record { segments = one.segments; lanes = one.lanes; zones = one.zones; spots = one.spots; points = one.points; checkpoints = one.checkpoints; stops = one.stops; exits = one.exits })

-- the seven cases of document 01 that are faults of the RNDF
pub record Seven (edition : Edition) (t : Lent) : Type 0 where
  pub entry-3 : RefusesRndf (rules_of edition) entry-3 t 9 12 12
  pub exit_from_3 : RefusesRndf (rules_of edition) exit_from_3 t 9 9 6
  pub three_waypoints : RefusesRndf (rules_of edition) three_waypoints t 12 5 1
  pub one_waypoint : RefusesRndf (rules_of edition) one_waypoint t 8 9 12
  pub without_end : RefusesRndf (rules_of edition) without_end t 14 10 0
  pub nothing : RefusesRndf (rules_of edition) [] t 1 10 0
  pub line_8_twice : RefusesRndf (rules_of edition) line_8_twice t 9 13 18

pub seven : (edition : Edition) (t : Lent) → HasRoom network_twice t → Seven edition t
seven edition t room = record {
  entry-3 = bad_reference network_entry_3 small.entry-3 (spelled edition).entry-3 (less-room t room).1 (faults edition).entry-3 (wrong-at edition network_entry_3 entry-3 9 12 12 (faults edition).entry-3 (columns edition).entry-3);
  exit_from_3 = bad_line small.exit_from_3 (faults edition).exit_from_3 (bad-at edition exit_from_3 9 9 6 (faults edition).exit_from_3 (columns edition).exit_from_3);
  three_waypoints = bad_line small.three_waypoints (faults edition).three_waypoints (bad-at edition three_waypoints 12 5 1 (faults edition).three_waypoints (columns edition).three_waypoints);
  one_waypoint = bad_line small.one_waypoint (faults edition).one_waypoint (bad-at edition one_waypoint 8 9 12 (faults edition).one_waypoint (columns edition).one_waypoint);
  without_end = unended small.without_end (faults edition).without_end;
  nothing = unended (lit≤ tt) (faults edition).nothing;
  line_8_twice = bad_reference network_twice small.line_8_twice (spelled edition).line_8_twice room (faults edition).line_8_twice (wrong-at edition network_twice line_8_twice 9 13 18 (faults edition).line_8_twice (columns edition).line_8_twice);
}

-- a good first line, lane or segment does not help where the second is not, whatever is lent
pub record Seconds (edition : Edition) (t : Lent) : Type 0 where
  pub line : RefusesRndf (rules_of edition) second_line t 2 5 (rndf_column_in_of (inner edition) second_line 2 5)
  pub lane : RefusesRndf (rules_of edition) second_lane t 12 9 (rndf_column_in_of (inner edition) second_lane 12 9)
  pub segment : RefusesRndf (rules_of edition) second_segment t 15 9 (rndf_column_in_of (inner edition) second_segment 15 9)

pub seconds : (edition : Edition) (t : Lent) → Seconds edition t
seconds edition t = record {
  line = bad_line small.second_line (faults edition).second_line (rndf-column-bad_in (inner edition) second_line 2 5 (faults edition).second_line);
  lane = bad_line small.second_lane (faults edition).second_lane (rndf-column-bad_in (inner edition) second_lane 12 9 (faults edition).second_lane);
  segment = bad_line small.second_segment (faults edition).second_segment (rndf-column-bad_in (inner edition) second_segment 15 9 (faults edition).second_segment);
}

-- what is refused so gets that reply, and leaves the lent tables zero
pub refused : (edition : Edition) (text : Bytes) (t : Lent) (line number column : ℕ) → RefusesRndf (rules_of edition) text t line number column → Refused edition text t line number column
refused edition text t line number column h r l x = refusal-only edition text t r l line number column x h
