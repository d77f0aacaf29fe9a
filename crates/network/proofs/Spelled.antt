-- THE LAWS of a text that spells a network: the walk counts the rows of its tables, and stores them where there is room. Assumes nothing.
use mathlib.Core.Path.{◌≡◌, refl, sym, ap, subst, ◌∙◌}
use mathlib.Core.List.{List, [], ◌∷◌, map, map-map}
use mathlib.Core.Bool.{true}
use Prim.Native.Nat.{ℕ, ◌≤◌, ◌<◌}
use native.Mathlib.Omega.{arith}
use lib.ListN.{length, length-map}
use lib.Dec.{lit<}
use lib.IntN.{pos}
use Rattle.terms.specs.Ascii.{Bytes}
use Rattle.terms.proofs.Lists.{each_map, each-any}
use Rattle.units.specs.Range.{Numbered}
use Rattle.line.specs.Content.{Field}
use Rattle.grammar.specs.Editions.{Edition, march}
use Rattle.grammar.specs.Statements.{Statement, PointId}
use Rattle.grammar.specs.Network.{Network, under, SpellsNetworkBy, SpellsNetwork}
use Rattle.grammar.specs.Names.{network_named}
use Rattle.grammar.specs.Places.{rndf, name_due}
use Rattle.grammar.specs.Tables as T
use Rattle.grammar.specs.Tables.{Tables, tables_with, tables_unresolved, tables, point_row_of}
use Rattle.text.specs.Answers.{read}
use Rattle.text.specs.RndfLines.{rndf_line_in_of, the_rndf_line_of}
use Rattle.text.specs.RndfWords.{rndf_lexis_in, rndf_lexis}
use Rattle.text.specs.Spelling.{SpellsRndfIn, SpellsRndf}
use Rattle.text.proofs.TextReading as TR
use Rattle.text.proofs.Theorems.{places, rndf-file_in, read-rndf, rndf-file}
use Rattle.fill.specs.NetworkRows.{tabled, fill}
use Rattle.fill.specs.Resolve.{with_entry}
use Rattle.fill.specs.Counts.{Counts, sizes}
use Rattle.fill.specs.Tally.{no_counts, tallied}
use Rattle.fill.proofs.RowLaws.{map_each}
use Rattle.fill.proofs.CountLaws.{ends-agree}
use Rattle.fill.proofs.NetworkFills.{network_fills}
use Rattle.fill.proofs.ReferenceLaws.{exits-with, sizes-with}
use Rattle.fill.proofs.SizeLaws.{tallied-sizes}
use Rattle.statement.specs.Meaning.{Stretch, stretch}
use Rattle.made_out.specs.Names.{the_the_stretch_of}
use Rattle.rows.specs.declared.ExitRow.{ExitRow}
use Rattle.rows.specs.Columns.{segment_words_of, lane_words_of, zone_words_of, spot_words_of, point_words_of, checkpoint_words_of, stop_words_of, exit_words_of}
use Rattle.rows.specs.Strides.{segment_stride, lane_stride, zone_stride, spot_stride, point_stride, checkpoint_stride, stop_stride, exit_stride}
use Rattle.rows.specs.Table.{put_rows}
use Rattle.progress.specs.Shown.{shown_file, shown_segment, shown_lane, shown_zone, shown_spot}
use Rattle.walk.specs.Standing.{places_in}
use Rattle.walk.specs.Walking.{Found, fault, gathered}
use Rattle.table_words.specs.Words.{Lent, zeros, HasRoom, the_segment_words_of, the_lane_words_of, the_zone_words_of, the_spot_words_of, position_words, the_checkpoint_words_of, the_stop_words_of}
use Rattle.table_words.specs.Named.{segment_row_named, zone_row_named, tables_named}
use Rattle.table_words.proofs.Bounds.{LaneBounds, SpotBounds, CheckpointBounds, Bounded, spelled-bounded}
use Rattle.table_words.proofs.Filled.{put_all, segment-long, zone-long}
use Rattle.table_words.proofs.Renamed.{tables-with-named, stretches-sizes}
use Rattle.table_words.proofs.RowsAtMost.{rows-at-most}
use Rattle.table_words.proofs.Spelled.{network-spelled}
use Rattle.network.specs.Storing.{Memory, memory}
use Rattle.network.specs.Reading.{most, filled_of}
use Rattle.network.proofs.Answered.{filled-over, no-fault, found_rows}
use Rattle.network.proofs.ExitLines.{exit-starts, exits-at}
use Rattle.network.proofs.Stored.{told, shown_point, shown_checkpoint, shown_stop, AllNumbered, exit-point}
use Rattle.network.proofs.Gathered.{nothing_yet, rows-given, state-behind, progress-behind, exits-given, points-so-far, filled-read}
use Rattle.network.proofs.Kept.{row_kept, lane-kept, spot-kept, checkpoint-kept, stop-kept, segment-kept, zone-kept, file-kept, table_kept}
use Rattle.network.proofs.Holding.{at_first, CountsNetwork, exits-by-line, HoldsNetwork, CountedNetwork, FilledNetwork}

module _ (n : Network Field) (ts : List (Statement Field)) (s : SpellsNetwork n ts) where
  -- the statements give the tables of the network, with names as stretches of the text, and entries not looked up
  rows_are : tabled (state-behind ts).file (rows-given ts) ≡ tables_named the_the_stretch_of (tables_unresolved n)
  unfolding fill
  rows_are = network_fills (stretch 0 0) (network_named the_the_stretch_of n) (told ts) (network-spelled the_the_stretch_of n ts s) ∙ tables-with-named the_the_stretch_of n (λ e. e)

  -- every checkpoint number is one
  pub numbers_fit : AllNumbered (rows-given ts).checkpoints
  unfolding tables_with
  numbers_fit =
      let b = (spelled-bounded (λ e. e) n ts s).checkpoints in
      let points = length (tables_unresolved n).points in
      subst AllNumbered (ap (λ (t : Tables Stretch PointId). t.checkpoints) (sym rows_are))
      (each_map (CheckpointBounds points) (λ r. Numbered r.number) (λ r h. record { low = h.number.low; high = h.number.high }) (tables_unresolved n).checkpoints b)

  counts_are : tallied (told ts) no_counts ≡ sizes (tables n)
  counts_are =
      tallied-sizes (stretch 0 0) (told ts)
      ∙ ap (λ (t : Tables Stretch PointId). sizes t) (network_fills (stretch 0 0) (network_named the_the_stretch_of n) (told ts) (network-spelled the_the_stretch_of n ts s))
      ∙ sym (sizes-with (point_row_of (network_named the_the_stretch_of n)) (network_named the_the_stretch_of n))
      ∙ stretches-sizes n

  points-are : (state-behind ts).points ≡ (sizes (tables n)).points
  points-are = (ends-agree (told ts) nothing_yet no_counts (refl, refl, refl)).2 ∙ ap (λ (c : Counts). c.points) counts_are

  progress-counts : CountsNetwork n (progress-behind ts)
  unfolding tables_with
  progress-counts = record {
    segments = ap (λ (c : Counts). c.segments) counts_are;
    lanes = ap (λ (c : Counts). c.lanes) counts_are;
    zones = ap (λ (c : Counts). c.zones) counts_are;
    spots = ap (λ (c : Counts). c.spots) counts_are;
    points = points-so-far ts ∙ points-are;
    checkpoints = ap (λ (c : Counts). c.checkpoints) counts_are;
    stops = ap (λ (c : Counts). c.stops) counts_are;
    exits = ap (λ (c : Counts). c.exits) counts_are;
    file = ap (λ (t : Tables Stretch PointId). shown_file t.file) rows_are ∙ file-kept (T.the_file_row_of n);
  }

-- ## Exits
-- no more of them than points
exits-at-most : (points starts : List ℕ) → length (exits-at points starts) ≤ length points
unfolding exits-at
exits-at-most [] [] = omega arith
exits-at-most [] (a ∷ starts) = omega arith
exits-at-most (p ∷ points) [] = omega arith
exits-at-most (p ∷ points) (a ∷ starts) = let h = exits-at-most points starts in omega arith

-- ## The tables of a text that spells the network
module _ (n : Network Field) (text : Bytes) (h : SpellsRndf n text) where
  -- where the lines of its exits start
  abbrev pub exit-line-starts : List ℕ
  exit-line-starts = exit-starts (places_in text) h.said

  -- the statements that are read are those that are spelled
  pub statements-read : read-rndf text ≡ read h.said
  statements-read = TR.spelled-read (rndf Field) rndf_lexis the_rndf_line_of SpellsNetwork name_due rndf-file n text h

  module _ (long : length text ≤ most) where
    few-points : length (tables n).points ≤ most
    few-points = let a = (rows-at-most n text h).points in omega arith

    bounds : Bounded (tables n)
    bounds = spelled-bounded (point_row_of n) n h.said h.net

    exits-are : exits-given text h.said ≡ exits-by-line n exit-line-starts
    exits-are =
        let a : (rows-given h.said).exits ≡ (tables_unresolved n).exits = ap (λ (t : Tables Stretch PointId). t.exits) (rows_are n h.said h.net) in
        let e = (spelled-bounded (λ e. e) n h.said h.net).exits in
        let l : length (tables_unresolved n).points ≤ most = subst (λ (c : Counts). c.points ≤ most) (sizes-with (point_row_of n) n) few-points in
        let kept : map exit-point (tables_unresolved n).exits ≡ map (λ r. r.point) (tables_unresolved n).exits
        = map_each exit-point (λ r. r.point) (tables_unresolved n).exits
        (each_map (λ r. r.point < length (tables_unresolved n).points) (λ r. exit-point r ≡ r.point) (λ r k. row_kept r.point (length (tables_unresolved n).points) k l) (tables_unresolved n).exits e) in
        let other : map (λ (r : T.ExitRow ℕ). r.point) (tables n).exits ≡ map (λ r. r.point) (tables_unresolved n).exits
        = ap (map (λ (r : T.ExitRow ℕ). r.point)) (sym (exits-with (point_row_of n) n)) ∙ map-map (λ (r : T.ExitRow ℕ). r.point) (with_entry (point_row_of n)) (tables_unresolved n).exits in
        ap (λ (ps : List ℕ). exits-at ps exit-line-starts) (ap (map exit-point) a ∙ kept ∙ sym other)

    module _ (t : Lent) (room : HasRoom (sizes (tables n)) t) where
      abbrev held : Memory
      held = memory (progress-behind h.said)
          (put_rows segment_stride segment_words_of (zeros t).segments 0 (map shown_segment (rows-given h.said).segments))
          (put_rows lane_stride lane_words_of (zeros t).lanes 0 (map shown_lane (rows-given h.said).lanes))
          (put_rows zone_stride zone_words_of (zeros t).zones 0 (map shown_zone (rows-given h.said).zones))
          (put_rows spot_stride spot_words_of (zeros t).spots 0 (map shown_spot (rows-given h.said).spots))
          (put_rows point_stride point_words_of (zeros t).points 0 (map shown_point (rows-given h.said).points))
          (put_rows checkpoint_stride checkpoint_words_of (zeros t).checkpoints 0 (map shown_checkpoint (rows-given h.said).checkpoints))
          (put_rows stop_stride stop_words_of (zeros t).stops 0 (map shown_stop (rows-given h.said).stops))
          (put_rows exit_stride exit_words_of (zeros t).exits 0 (exits-given text h.said))

      held-is : HoldsNetwork n exit-line-starts t held
      unfolding tables_with
      held-is =
          let e = rows_are n h.said h.net in
          let points = length (tables n).points in
          record {
            segments = table_kept segment_stride segment_words_of (λ r. shown_segment (segment_row_named the_the_stretch_of r)) (the_segment_words_of (λ name. name.start) (λ name. length name.bytes)) (lit< tt) (segment-long (λ name. name.start) (λ name. length name.bytes))
                0 (length t.segments) (map shown_segment (rows-given h.said).segments) (tables n).segments
                (ap (λ (x : Tables Stretch PointId). map shown_segment x.segments) e ∙ map-map shown_segment (segment_row_named the_the_stretch_of) (tables n).segments)
                (each_map (λ r. Unit {0}) (λ r. segment_words_of (shown_segment (segment_row_named the_the_stretch_of r)) ≡ the_segment_words_of (λ name. name.start) (λ name. length name.bytes) r) (λ r u. segment-kept r) (tables n).segments (each-any (tables n).segments))
                room.segments;
            lanes = table_kept lane_stride lane_words_of shown_lane the_lane_words_of (lit< tt) (λ r. refl) 0 (length t.lanes) (map shown_lane (rows-given h.said).lanes) (tables n).lanes
                (ap (λ (x : Tables Stretch PointId). map shown_lane x.lanes) e)
                (each_map (LaneBounds points) (λ r. lane_words_of (shown_lane r) ≡ the_lane_words_of r) (lane-kept points) (tables n).lanes bounds.lanes)
                room.lanes;
            zones = table_kept zone_stride zone_words_of (λ r. shown_zone (zone_row_named the_the_stretch_of r)) (the_zone_words_of (λ name. name.start) (λ name. length name.bytes)) (lit< tt) (zone-long (λ name. name.start) (λ name. length name.bytes))
                0 (length t.zones) (map shown_zone (rows-given h.said).zones) (tables n).zones
                (ap (λ (x : Tables Stretch PointId). map shown_zone x.zones) e ∙ map-map shown_zone (zone_row_named the_the_stretch_of) (tables n).zones)
                (each_map (λ r. Unit {0}) (λ r. zone_words_of (shown_zone (zone_row_named the_the_stretch_of r)) ≡ the_zone_words_of (λ name. name.start) (λ name. length name.bytes) r) (λ r u. zone-kept r) (tables n).zones (each-any (tables n).zones))
                room.zones;
            spots = table_kept spot_stride spot_words_of shown_spot the_spot_words_of (lit< tt) (λ r. refl) 0 (length t.spots) (map shown_spot (rows-given h.said).spots) (tables n).spots
                (ap (λ (x : Tables Stretch PointId). map shown_spot x.spots) e)
                (each_map (SpotBounds points) (λ r. spot_words_of (shown_spot r) ≡ the_spot_words_of r) (spot-kept points) (tables n).spots bounds.spots)
                room.spots;
            points = table_kept point_stride point_words_of shown_point position_words (lit< tt) (λ r. refl) (pos 0) (length t.points) (map shown_point (rows-given h.said).points) (tables n).points
                (ap (λ (x : Tables Stretch PointId). map shown_point x.points) e)
                (each_map (λ r. Unit {0}) (λ r. point_words_of (shown_point r) ≡ position_words r) (λ r u. refl) (tables n).points (each-any (tables n).points))
                room.points;
            checkpoints = table_kept checkpoint_stride checkpoint_words_of shown_checkpoint the_checkpoint_words_of (lit< tt) (λ r. refl) 0 (length t.checkpoints) (map shown_checkpoint (rows-given h.said).checkpoints) (tables n).checkpoints
                (ap (λ (x : Tables Stretch PointId). map shown_checkpoint x.checkpoints) e)
                (each_map (CheckpointBounds points) (λ r. checkpoint_words_of (shown_checkpoint r) ≡ the_checkpoint_words_of r) (checkpoint-kept points few-points) (tables n).checkpoints bounds.checkpoints)
                room.checkpoints;
            stops = table_kept stop_stride stop_words_of shown_stop the_stop_words_of (lit< tt) (λ r. refl) 0 (length t.stops) (map shown_stop (rows-given h.said).stops) (tables n).stops
                (ap (λ (x : Tables Stretch PointId). map shown_stop x.stops) e)
                (each_map (λ r. r < points) (λ r. stop_words_of (shown_stop r) ≡ the_stop_words_of r) (stop-kept points few-points) (tables n).stops bounds.stops)
                room.stops;
            exits = ap (λ (es : List ExitRow). put_rows exit_stride exit_words_of (zeros t).exits 0 es) exits-are
                ∙ put_all exit_stride exit_words_of (lit< tt) (λ r. refl) 0 (length t.exits) (exits-by-line n exit-line-starts)
                (let a = exits-at-most (map (λ (r : T.ExitRow ℕ). r.point) (tables n).exits) exit-line-starts in
                let b = length-map (tables n).exits (λ (r : T.ExitRow ℕ). r.point) in
                let c = room.exits in omega arith);
          }

-- ## THE LAWS
abbrev left_in : Memory → Found Memory → Memory
left_in m (fault i k) = m
left_in m (gathered l) = l

module _ (n : Network Field) (text : Bytes) (h : SpellsRndf n text) where
  -- whatever is lent, the rows are counted: for refusal 11
  pub counted-spelled : (t : Lent) → CountedNetwork n (filled_of march text (at_first t))
  counted-spelled t = record {
    left = _;
    rows = filled-read text h.said (statements-read n text h) (numbers_fit n h.said h.net) t.segments t.lanes t.zones t.spots t.points t.checkpoints t.stops t.exits;
    counts = progress-counts n h.said h.net;
  }

  -- where zeros are lent that have room, the tables are the network's
  pub filled-spelled : length text ≤ most → (t : Lent) → HasRoom (sizes (tables n)) t → FilledNetwork n (exit-line-starts n text h) t (filled_of march text (at_first (zeros t)))
  filled-spelled long t room = record {
    left = held n text h long t room;
    rows = filled-read text h.said (statements-read n text h) (numbers_fit n h.said h.net) (zeros t).segments (zeros t).lanes (zeros t).zones (zeros t).spots (zeros t).points (zeros t).checkpoints (zeros t).stops (zeros t).exits;
    counts = progress-counts n h.said h.net;
    holds = held-is n text h long t room;
  }

  -- the same of whatever memory was found
  pub left-counted : (t : Lent) (m : Memory) → filled_of march text (at_first t) ≡ gathered m → CountsNetwork n m.so_far
  left-counted t m e = let a = counted-spelled t in subst (λ (l : Memory). CountsNetwork n l.so_far) (ap (left_in m) (sym a.rows ∙ e)) a.counts

  pub left-filled : length text ≤ most → (t : Lent) → HasRoom (sizes (tables n)) t → (m : Memory) → filled_of march text (at_first (zeros t)) ≡ gathered m → HoldsNetwork n (exit-line-starts n text h) t m
  left-filled long t room m e = let a = filled-spelled long t room in subst (HoldsNetwork n (exit-line-starts n text h) t) (ap (left_in m) (sym a.rows ∙ e)) a.holds

  -- no fault is found
  pub never-faulty : (m : Memory) (i k : ℕ) → filled_of march text m ≡ fault i k → ⊥
  never-faulty m i k e = no-fault (sym (filled-over march text m h.said (statements-read n text h)) ∙ e)

-- where rows are found in an edition, the text spells a network in it
pub found-network : (ε : Edition) (text : Bytes) (m l : Memory) → filled_of ε text m ≡ gathered l → (n : Network Field) × SpellsRndfIn ε n text
found-network ε text m l e = (TR.well-formed (places ε) (rndf_lexis_in ε) (rndf_line_in_of ε) (SpellsNetworkBy (under ε true)) name_due (rndf-file_in ε) text).0 (found_rows ε text m l e)
