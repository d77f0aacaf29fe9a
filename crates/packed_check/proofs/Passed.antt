-- What the passes say all together: bytes are some network's form, by these counts, this file's row and these places. Both ways. Assumes nothing.
use Rattle.std.specs.Prelude.{Some}
use mathlib.Core.Path.{◌≡◌, refl, sym, ap, subst, ◌∙◌}
use mathlib.Core.List.{List}
use mathlib.Core.Option.{Option, none, some}
use mathlib.Core.Bool.{Bool, true}
use Prim.Native.Nat.{ℕ, ◌+◌, ◌*◌, ◌≤◌}
use native.Mathlib.Omega.{arith}
use lib.Dec.{leb}
use lib.ListN.{length, drop, length-map}
use borrow.Author.Tests.{leb-true, le-leb}
use Rattle.terms.specs.Ascii.{Bytes}
use Rattle.line.specs.Content.{Field}
use Rattle.counts.specs.declared.Counts.{Counts}
use Rattle.rows.specs.declared.FileRow.{FileRow}
use Rattle.grammar.specs.Network.{largest}
use Rattle.grammar.specs.Tables.{Tables}
use Rattle.grammar.specs.Tables as G
use Rattle.table_words.specs.FileRows.{shown_name, shown_file}
use Rattle.law_tables.proofs.SameRows.{start_of, length-of}
use Rattle.replies.specs.Replies.{stretch}
use Rattle.row_network.specs.Consistent.{Running, lanes_end, Consistent}
use Rattle.unpackings.proofs.Rows.{at, segment-back, zone-back}
use Rattle.packed_tables.proofs.Records.{Small, all_here, records-read, both_true, true-both}
use Rattle.packed_tables.proofs.Whole.{segment-kinds, lane-kinds, zone-kinds, spot-kinds, point-kinds, checkpoint-kinds, stop-kinds, exit-kinds, length-records, rows_told}
use Rattle.packed_frame.specs.Segments.{segments, segments_told}
use Rattle.packed_frame.specs.Zones.{zones, zones_told}
use Rattle.packed_frame.specs.Spots.{all_spots}
use Rattle.packed_frame.specs.File.{file_at_of}
use Rattle.packed_parts.specs.Parts.{last_end}
use Rattle.frame_tables.proofs.File.{counts_of, the_row_of}
use Rattle.frame_tables.proofs.Told.{items, segments-at, lanes_at, zones-at, spots_at, points_at, checkpoints-at, stops_at, exits-at, form-end, zones-place, points-place, checkpoints-place, stops-place, exits-place, end-place, segments-are, zones-are, AllRight, right_so, so_right}
use Rattle.frame_tables.proofs.Frame.{Passes, Frame, placed, frame-so, frame-all}
use Rattle.frame_tables.proofs.Frame as Frames
use Rattle.unpacked_rows.specs.declared.Places.{Places}
use Rattle.unpacked_tables.proofs.Judging.{Right, FormTold, counts-told, file-told}
use Rattle.packed_check.specs.Judgement.{few}
use Rattle.packed_check.proofs.Where.{file-inside, all-inside, places-at, places-so, rows-by, rows_are}
use Rattle.packed_check.proofs.Linked.{Rest, Framed, point-so, Tested, Here, rest-so, rest_all}

-- a name by its place
shown-same : (v : Option Field) → stretch v ≡ shown_name start_of length-of v
shown-same none = refl
shown-same (some v) = refl

row-shown : (r : G.FileRow Field) → the_row_of r ≡ shown_file start_of length-of r
row-shown r = let v = shown-same r.version in let d = shown-same r.date in λ i. record { name = stretch (some r.name); version = v i; date = d i }

-- ## What code tests
-- tables one behind the other, and nothing behind the last
pub record Behind (b : Bytes) (c : Counts) (p : Places) : Type 0 where
  pub zones : p.zones ≡ p.lanes + 12 * c.lanes
  pub points : p.points ≡ p.spots + 8 * c.spots
  pub checkpoints : p.checkpoints ≡ p.points + 10 * c.points
  pub stops : p.stops ≡ p.checkpoints + 8 * c.checkpoints
  pub exits : p.exits ≡ p.stops + 6 * c.stops
  pub end : p.exits + 10 * c.exits ≡ length b
  pub zones_inside : p.zones ≤ length b

module _ (b : Bytes) (s : Small b) where
  abbrev t : Tables Field ℕ
  t = rows_told (drop 5 b)

  pub record Tests (c : Counts) (r : FileRow) (p : Places) : Type 0 where
    pub file : file_at_of b ≡ Some (c, r, p.segments)
    pub are-few : few c ≡ true
    pub segments-pass : segments_told (segments c.segments b p.segments 0) ≡ Some (p.lanes, c.lanes)
    pub zones-pass : zones_told (zones c.zones b p.zones (last_end b p.lanes c.lanes, 0)) ≡ Some (p.spots, c.points, c.spots)
    pub spots-pass : all_spots c.zones b p.zones p.spots ≡ true
    pub rest : Tested b s (rows_told (drop 5 b)).file c p (last_end b p.lanes c.lanes)
    pub places : Behind b c p

  segments-long : length t.segments ≡ at 0 (items b)
  segments-long = ap (λ (l : List (G.SegmentRow Field)). length l) (segments-are b) ∙ length-map (records-read (segments-at b) (at 0 (items b)) segment-kinds (drop (segments-at b) b)) segment-back ∙ length-records (segments-at b) (at 0 (items b)) segment-kinds (drop (segments-at b) b)

  zones-long : length t.zones ≡ at 2 (items b)
  zones-long = ap (λ (l : List (G.ZoneRow Field)). length l) (zones-are b) ∙ length-map (records-read (zones-at b) (at 2 (items b)) zone-kinds (drop (zones-at b) b)) zone-back ∙ length-records (zones-at b) (at 2 (items b)) zone-kinds (drop (zones-at b) b)

  framed_of : (point : ℕ) → Frame b point → Framed t point
  framed_of point f = record { zones_running = f.zones_running; spots_running = f.spots_running; spots_count = f.spots_count }

  -- ## What passes is so
  module _ (c : Counts) (r : FileRow) (p : Places) (d : Tests c r p) where
    abbrev point : ℕ
    point = last_end b p.lanes c.lanes

    passes : Passes b c r point × Frames.Places b p.segments p.lanes p.spots
    passes = placed b c r point p.segments p.lanes p.spots d.file d.segments-pass (subst (λ (x : ℕ). zones_told (zones c.zones b x (point, 0)) ≡ Some (p.spots, c.points, c.spots)) d.places.zones d.zones-pass) (subst (λ (x : ℕ). all_spots c.zones b x p.spots ≡ true) d.places.zones d.spots-pass)

    frame : (c ≡ counts_of (items b)) × ((r ≡ the_row_of t.file) × Frame b point)
    frame = frame-so b c r point passes.0

    counts_are : c ≡ counts_of (items b)
    counts_are = frame.0

    places_are : p ≡ places-at b
    places_are =
        let e₀ = passes.1.segments in
        let e₁ = passes.1.lanes in
        let e₂ = d.places.zones ∙ (λ i. e₁ i + 12 * (counts_are i).lanes) ∙ sym (zones-place b) in
        let e₃ = passes.1.spots in
        let e₄ = d.places.points ∙ (λ i. e₃ i + 8 * (counts_are i).spots) ∙ sym (points-place b) in
        let e₅ = d.places.checkpoints ∙ (λ i. e₄ i + 10 * (counts_are i).points) ∙ sym (checkpoints-place b) in
        let e₆ = d.places.stops ∙ (λ i. e₅ i + 8 * (counts_are i).checkpoints) ∙ sym (stops-place b) in
        let e₇ = d.places.exits ∙ (λ i. e₆ i + 6 * (counts_are i).stops) ∙ sym (exits-place b) in
        λ i. record { segments = e₀ i; lanes = e₁ i; zones = e₂ i; spots = e₃ i; points = e₄ i; checkpoints = e₅ i; stops = e₆ i; exits = e₇ i }

    rows-so : t ≡ rows-by b t.file c p
    rows-so = rows_are b ∙ (λ i. rows-by b t.file (sym counts_are i) (sym places_are i))

    here-to : (f : Counts → Places → Bool) → f c p ≡ true → f (counts_of (items b)) (places-at b) ≡ true
    here-to f h = (λ i. f (sym counts_are i) (sym places_are i)) ∙ h

    here-from : (f : Counts → Places → Bool) → f (counts_of (items b)) (places-at b) ≡ true → f c p ≡ true
    here-from f h = (λ i. f (counts_are i) (places_are i)) ∙ h

    rest : Here b s t.file c p × Rest (rows-by b t.file c p) point
    rest = rest-so b s t.file c p point (here-from (λ c p. all_here c.zones zone-kinds (drop p.zones b)) frame.1.1.zones_here) (here-from (λ c p. all_here c.spots spot-kinds (drop p.spots b)) frame.1.1.spots-here) (subst (λ (t : Tables Field ℕ). Framed t point) rows-so (framed_of point frame.1.1)) d.rest

    point-is : point ≡ lanes_end t
    point-is = point-so b s t.file c p rest.0.lanes rest.1.lanes_running ∙ ap (λ (t : Tables Field ℕ). lanes_end t) (sym rows-so)

    rest-told : Rest t (lanes_end t)
    rest-told = subst (Rest t) point-is (subst (λ (t : Tables Field ℕ). Rest t point) (sym rows-so) rest.1)

    frame-told : Frame b (lanes_end t)
    frame-told = subst (Frame b) point-is frame.1.1

    ends : length b ≤ form-end b
    ends = let e : p.exits + 10 * c.exits ≡ form-end b = (λ i. (places_are i).exits + 10 * (counts_are i).exits) ∙ sym (end-place b) in let l = d.places.end in omega arith

    all_there : AllRight b
    all_there = record {
      file = frame.1.1.file-here;
      segments = frame.1.1.segments-here;
      lanes = here-to (λ c p. all_here c.lanes lane-kinds (drop p.lanes b)) rest.0.lanes;
      zones = frame.1.1.zones_here;
      spots = frame.1.1.spots-here;
      points = here-to (λ c p. all_here c.points point-kinds (drop p.points b)) rest.0.points;
      checkpoints = here-to (λ c p. all_here c.checkpoints checkpoint-kinds (drop p.checkpoints b)) rest.0.checkpoints;
      stops = here-to (λ c p. all_here c.stops stop-kinds (drop p.stops b)) rest.0.stops;
      exits = here-to (λ c p. all_here c.exits exit-kinds (drop p.exits b)) rest.0.exits;
      no_more = ends;
    }

    some-so : (1 ≤ length t.segments) × (length t.segments + length t.zones ≤ largest)
    some-so =
        let u = both_true (leb 1 c.segments) (leb (c.segments + c.zones) 32768) d.are-few in
        let h = leb-true 1 c.segments u.0 in
        let k = leb-true (c.segments + c.zones) 32768 u.1 in
        let e : c.segments ≡ length t.segments = ap (λ (c : Counts). c.segments) counts_are ∙ sym segments-long in
        let g : c.zones ≡ length t.zones = ap (λ (c : Counts). c.zones) counts_are ∙ sym zones-long in
        (omega arith, omega arith)

    consistent : Consistent t
    consistent = record {
      some-segment = some-so.0;
      count = some-so.1;
      segments = frame-told.segments-right;
      lanes = rest-told.lanes;
      zones = frame-told.zones-right;
      spots = frame-told.spots_right;
      points = rest-told.points;
      checkpoints = rest-told.checkpoints;
      numbers = rest-told.numbers;
      entries = rest-told.entries;
      segments_running = frame-told.segments_running;
      lanes_running = rest-told.lanes_running;
      zones_running = frame-told.zones_running;
      first_spots = frame-told.first_spots;
      spots_running = frame-told.spots_running;
      lanes_count = frame-told.lanes_count;
      spots_count = frame-told.spots_count;
      points_count = frame-told.points_count;
      stops = rest-told.stops;
      parts = rest-told.parts;
    }

    -- THE LAW
    pub tests-so : FormTold b c r p
    unfolding counts-told file-told
    tests-so = record { right = record { framed = so_right b all_there; consistent = consistent; names = frame-told.names }; counts_are = counts_are; file_is = frame.1.0 ∙ row-shown t.file; places_are = places_are ∙ sym (places-so b) }

  -- ## And all that is so passes
  module _ (x : Right b) where
    abbrev c₀ : Counts
    c₀ = counts_of (items b)

    abbrev told-point : ℕ
    told-point = last_end b (lanes_at b) (at 1 (items b))

    there : AllRight b
    there = right_so b x.framed

    here : Here b s t.file c₀ (places-at b)
    here = record { lanes = there.lanes; points = there.points; checkpoints = there.checkpoints; stops = there.stops; exits = there.exits }

    told-point-is : told-point ≡ lanes_end t
    told-point-is = point-so b s t.file c₀ (places-at b) there.lanes (subst (λ (t : Tables Field ℕ). Running (λ r. r.first_point_of) (λ r. r.points) 0 t.lanes) (rows_are b) x.consistent.lanes_running) ∙ ap (λ (t : Tables Field ℕ). lanes_end t) (sym (rows_are b))

    frame-end : Frame b (lanes_end t)
    frame-end =
        let k = x.consistent in
        record { file-here = there.file; segments-here = there.segments; zones_here = there.zones; spots-here = there.spots; names = x.names; segments-right = k.segments; zones-right = k.zones; spots_right = k.spots; segments_running = k.segments_running; zones_running = k.zones_running; first_spots = k.first_spots; spots_running = k.spots_running; lanes_count = k.lanes_count; spots_count = k.spots_count; points_count = k.points_count }

    rest_end : Rest t (lanes_end t)
    rest_end = let k = x.consistent in record { lanes = k.lanes; points = k.points; checkpoints = k.checkpoints; numbers = k.numbers; entries = k.entries; lanes_running = k.lanes_running; stops = k.stops; parts = k.parts }

    frame-there : Frame b told-point
    frame-there = subst (Frame b) (sym told-point-is) frame-end

    frame-passes : Passes b c₀ (the_row_of t.file) told-point
    frame-passes = frame-all b told-point frame-there

    rest-passes : Tested b s t.file c₀ (places-at b) told-point
    rest-passes = rest_all b s t.file c₀ (places-at b) told-point there.zones there.spots (subst (λ (t : Tables Field ℕ). Framed t told-point) (rows_are b) (framed_of told-point frame-there)) here (subst (λ (t : Tables Field ℕ). Rest t told-point) (rows_are b) (subst (Rest t) (sym told-point-is) rest_end))

    zones_in : zones-at b ≤ length b
    zones_in = all-inside (at 1 (items b)) lane-kinds b (lanes_at b) (all-inside (at 0 (items b)) segment-kinds b (segments-at b) (file-inside b there.file) there.segments) there.lanes

    points_in : points_at b ≤ length b
    points_in = all-inside (at 3 (items b)) spot-kinds b (spots_at b) (all-inside (at 2 (items b)) zone-kinds b (zones-at b) zones_in there.zones) there.spots

    stops_in : stops_at b ≤ length b
    stops_in = all-inside (at 5 (items b)) checkpoint-kinds b (checkpoints-at b) (all-inside (at 4 (items b)) point-kinds b (points_at b) points_in there.points) there.checkpoints

    end_in : form-end b ≤ length b
    end_in = all-inside (at 7 (items b)) exit-kinds b (exits-at b) (all-inside (at 6 (items b)) stop-kinds b (stops_at b) stops_in there.stops) there.exits

    end_is : exits-at b + 10 * at 7 (items b) ≡ length b
    end_is = let e = end-place b in let l = end_in in let m = there.no_more in omega arith

    few-is : few c₀ ≡ true
    few-is =
        let e = segments-long in
        let g = zones-long in
        let h = x.consistent.some-segment in
        let k = x.consistent.count in
        true-both (leb 1 (at 0 (items b))) (leb (at 0 (items b) + at 2 (items b)) 32768) (le-leb 1 (at 0 (items b)) (omega arith)) (le-leb (at 0 (items b) + at 2 (items b)) 32768 (omega arith))

    -- THE LAW
    pub tests-all : Tests (counts_of (items b)) (the_row_of (rows_told (drop 5 b)).file) (places-at b)
    tests-all = record {
      file = frame-passes.file;
      are-few = few-is;
      segments-pass = frame-passes.segments-pass;
      zones-pass = frame-passes.zones-pass;
      spots-pass = frame-passes.spots-pass;
      rest = rest-passes;
      places = record { zones = zones-place b; points = points-place b; checkpoints = checkpoints-place b; stops = stops-place b; exits = exits-place b; end = end_is; zones_inside = zones_in };
    }
