-- Where each table stands: the places that a judge has to tell are those from which the rows told are read. Assumes nothing.
use mathlib.Core.Path.{◌≡◌, refl, sym, ap, subst, ◌∙◌}
use mathlib.Core.List.{List, [], ◌∷◌, map}
use mathlib.Core.Bool.{true}
use Prim.Native.Nat.{ℕ, zero, suc, ◌+◌, ◌≤◌}
use native.Mathlib.Omega.{arith}
use lib.ListN.{length, drop, length-drop}
use lib.Seq.{drop-drop}
use Rattle.terms.specs.Ascii.{Bytes}
use Rattle.line.specs.Content.{Field}
use Rattle.counts.specs.declared.Counts.{Counts}
use Rattle.grammar.specs.Tables.{Tables, FileRow}
use Rattle.unpackings.proofs.Cutting.{Kind}
use Rattle.unpackings.proofs.Rows.{at, segment-back, lane-back, zone-back, spot_back, point-back, checkpoint-back, exit-back}
use Rattle.packed_tables.proofs.Records.{here, whole-size, all_here, place_after, records-read, both_true, after-place}
use Rattle.packed_tables.proofs.Whole.{Tab, tabs, file-kinds, segment-kinds, lane-kinds, zone-kinds, spot-kinds, point-kinds, checkpoint-kinds, stop-kinds, exit-kinds, rows_told}
use Rattle.frame_tables.proofs.File.{counts_of}
use Rattle.frame_tables.proofs.Told.{items, segments-at, lanes_at, zones-at, spots_at, points_at, checkpoints-at, stops_at, exits-at, segments-are, lanes-are, zones-are, spots-are, points-are, checkpoints-are, stops-are, exits-are}
use Rattle.unpacked_rows.specs.declared.Places.{Places}
use Rattle.unpacked_tables.proofs.Fields.{here-inside}
use Rattle.unpacked_tables.proofs.Judging.{tab-places, places_of, places-told}

-- ## Records that are here are inside
pub file-inside : (b : Bytes) → here file-kinds (drop 5 b) ≡ true → segments-at b ≤ length b
file-inside b h = let w = here-inside file-kinds (drop 5 b) h in let l = length-drop 5 b in omega arith

pub all-inside : (k : ℕ) (ks : List Kind) (b : Bytes) (p : ℕ) → p ≤ length b → all_here k ks (drop p b) ≡ true → place_after p k ks (drop p b) ≤ length b
unfolding all_here place_after
all-inside zero ks b p h e = h
all-inside (suc k) ks b p h e =
    let w = whole-size ks (drop p b) in
    let u = both_true (here ks (drop p b)) (all_here k ks (drop w (drop p b))) e in
    let i = here-inside ks (drop p b) u.0 in
    let l = length-drop p b in
    let d = drop-drop w p b in
    let j : p + w ≤ length b = omega arith in
    subst (λ (x : Bytes). place_after (p + w) k ks x ≤ length b) (sym d) (all-inside k ks b (p + w) j (ap (all_here k ks) (sym d) ∙ u.1))

-- ## Places
abbrev from_place : ℕ → List Tab → Bytes → List ℕ
from_place p [] b = []
from_place p (t ∷ ts) b = p ∷ from_place (place_after p t.0 t.1 (drop p b)) ts b

from-so : (p : ℕ) (ts : List Tab) (b : Bytes) → tab-places p ts (drop p b) ≡ from_place p ts b
unfolding tab-places
from-so p [] b = refl
from-so p (t ∷ ts) b = let q = place_after p t.0 t.1 (drop p b) in ap (λ (l : List ℕ). p ∷ l) (ap (tab-places q ts) (after-place t.0 t.1 b p) ∙ from-so q ts b)

abbrev pub places-at : Bytes → Places
places-at b = record { segments = segments-at b; lanes = lanes_at b; zones = zones-at b; spots = spots_at b; points = points_at b; checkpoints = checkpoints-at b; stops = stops_at b; exits = exits-at b }

pub places-so : (b : Bytes) → places-told b ≡ places-at b
unfolding places-told
places-so b = ap places_of (ap (tab-places (segments-at b) (tabs (items b))) (drop-drop (whole-size file-kinds (drop 5 b)) 5 b) ∙ from-so (segments-at b) (tabs (items b)) b)

-- ## Rows
-- those of so many records from these places on
abbrev pub rows-by : Bytes → FileRow Field → Counts → Places → Tables Field ℕ
rows-by b file c p = record {
  file = file;
  segments = map segment-back (records-read p.segments c.segments segment-kinds (drop p.segments b));
  lanes = map lane-back (records-read p.lanes c.lanes lane-kinds (drop p.lanes b));
  zones = map zone-back (records-read p.zones c.zones zone-kinds (drop p.zones b));
  spots = map spot_back (records-read p.spots c.spots spot-kinds (drop p.spots b));
  points = map point-back (records-read p.points c.points point-kinds (drop p.points b));
  checkpoints = map checkpoint-back (records-read p.checkpoints c.checkpoints checkpoint-kinds (drop p.checkpoints b));
  stops = map (at 0) (records-read p.stops c.stops stop-kinds (drop p.stops b));
  exits = map exit-back (records-read p.exits c.exits exit-kinds (drop p.exits b));
}

-- THE LAW: the rows told are these
pub rows_are : (b : Bytes) → rows_told (drop 5 b) ≡ rows-by b (rows_told (drop 5 b)).file (counts_of (items b)) (places-at b)
rows_are b = λ i. record {
  file = (rows_told (drop 5 b)).file;
  segments = segments-are b i;
  lanes = lanes-are b i;
  zones = zones-are b i;
  spots = spots-are b i;
  points = points-are b i;
  checkpoints = checkpoints-are b i;
  stops = stops-are b i;
  exits = exits-are b i;
}
