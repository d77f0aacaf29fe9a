-- THE LAW of the judge of 29: it says no exactly where bytes are no network's form; else it tells what they hold. Assumes nothing.
use Rattle.std.specs.Prelude.{Some, None, Option}
use mathlib.Core.Path.{◌≡◌, refl, sym, ap, subst, ◌∙◌}
use mathlib.Core.List.{[]}
use mathlib.Core.Bool.{Bool, true, false}
use Prim.Native.Nat.{ℕ, ◌+◌, ◌*◌, ◌≤◌}
use native.Mathlib.Omega.{arith}
use lib.Dec.{eqb}
use lib.ListN.{length, drop}
use borrow.Author.Tests.{eqb-true, eq-eqb}
use Rattle.terms.specs.Ascii.{Bytes}
use Rattle.terms.specs.Words.{pick}
use Rattle.counts.specs.declared.Counts.{Counts}
use Rattle.rows.specs.declared.FileRow.{FileRow}
use Rattle.room.specs.Room.{fitted}
use Rattle.room.proofs.Fitted.{fitted-kept}
use Rattle.replies.specs.Replies.{longest}
use Rattle.packed_tables.proofs.Records.{Small}
use Rattle.packed_tables.proofs.Whole.{segment-kinds, lane-kinds, rows_told}
use Rattle.packed_rows.specs.Fixed.{records_here}
use Rattle.packed_rows.specs.Points.{points_right}
use Rattle.packed_rows.specs.Lanes.{lanes_right}
use Rattle.packed_frame.specs.Segments.{segments, segments_told}
use Rattle.packed_frame.specs.Zones.{zones, zones_told}
use Rattle.packed_frame.specs.Spots.{all_spots}
use Rattle.packed_frame.specs.File.{file_at_of}
use Rattle.packed_parts.specs.Numbers.{numbers_right}
use Rattle.packed_parts.specs.Entries.{exits_right}
use Rattle.packed_parts.specs.Parts.{cell_at, last_end, parts_right}
use Rattle.frame_tables.proofs.Passes.{place-fixed}
use Rattle.frame_tables.proofs.File.{file-so}
use Rattle.frame_tables.proofs.Segments.{segments-so}
use Rattle.part_tables.proofs.Lanes.{lanes_so, both-picked, picked_both}
use Rattle.unpacked_rows.specs.declared.Places.{Places}
use Rattle.unpacked_tables.proofs.Judging.{Right, FormTold}
use Rattle.packed_check.specs.Judgement.{behind, places_of, few, tables_right, linked, with_places_of, by_zones_of, point_from, with_lanes_of, by_segments_of, by_file_of, judgement}
use Rattle.packed_check.proofs.Where.{file-inside, all-inside}
use Rattle.packed_check.proofs.Linked.{table, Tested}
use Rattle.packed_check.proofs.Passed.{Tests, tests-so, tests-all}

-- what the judge has to say
abbrev pub Judges : Bytes → Option (Counts × FileRow × Places) → Type 0
Judges bytes None = Right bytes → ⊥
Judges bytes (Some (c, file, places)) = FormTold bytes c file places

-- ## Places in 32 bits
-- those up to the longest bytes are what they are
record Kept (p : Places) : Type 0 where
  lanes : fitted p.lanes ≡ p.lanes
  zones : fitted p.zones ≡ p.zones
  spots : fitted p.spots ≡ p.spots
  points : fitted p.points ≡ p.points
  checkpoints : fitted p.checkpoints ≡ p.checkpoints
  stops : fitted p.stops ≡ p.stops
  exits : fitted p.exits ≡ p.exits

keep : (n : ℕ) → n ≤ longest → fitted n ≡ n
keep n h = fitted-kept n (omega arith)

under : (n m : ℕ) → fitted n + m ≤ longest → n ≤ longest
under n m h = omega arith

-- the tests over links, by the places themselves
abbrev exits-fit : Bytes → Counts → Places → ℕ → Bool
exits-fit b c p point = exits_right c.exits b p.exits (cell_at b p.spots 8 2) c.spots c.points point

abbrev parts-fit : Bytes → Counts → Places → ℕ → Bool
parts-fit b c p point = parts_right b (table p.lanes c.lanes) (table p.zones c.zones) (table p.checkpoints c.checkpoints) (table p.stops c.stops) (table p.exits c.exits) point

linked-kept : (b : Bytes) (c : Counts) (p : Places) (point : ℕ) → Kept p → linked b c p point ≡ pick (exits-fit b c p point) (parts-fit b c p point) false
unfolding linked
linked-kept b c p point k =
    let l = k.lanes in
    let z = k.zones in
    let o = k.spots in
    let n = k.checkpoints in
    let s = k.stops in
    let e = k.exits in
    λ i. pick (exits_right c.exits b p.exits (cell_at b (o i) 8 2) c.spots c.points point) (parts_right b (table (l i) c.lanes) (table (z i) c.zones) (table (n i) c.checkpoints) (table (s i) c.stops) (table (e i) c.exits) point) false

module _ (b : Bytes) (s : Small b) (short : length b ≤ longest) where
  -- ## All that passes is told
  module _ (c : Counts) (r : FileRow) (p : Places) (d : Tests b s c r p) where
    abbrev point : ℕ
    point = last_end b p.lanes c.lanes

    kept : Kept p
    kept =
        let q = d.places in
        let z = q.zones in
        let o = q.points in
        let n = q.checkpoints in
        let m = q.stops in
        let e = q.exits in
        let l = q.end in
        let i = q.zones_inside in
        record { lanes = keep p.lanes (omega arith); zones = keep p.zones (omega arith); spots = keep p.spots (omega arith); points = keep p.points (omega arith); checkpoints = keep p.checkpoints (omega arith); stops = keep p.stops (omega arith); exits = keep p.exits (omega arith) }

    places_is : places_of c p.segments p.lanes p.spots ≡ p
    places_is =
        let k = kept in
        let q = d.places in
        let z = ap (λ (x : ℕ). x + 12 * c.lanes) k.lanes ∙ sym q.zones in
        let o = ap (λ (x : ℕ). x + 8 * c.spots) k.spots ∙ sym q.points in
        let n = ap (λ (x : ℕ). behind x 10 c.points) o ∙ ap (λ (x : ℕ). x + 10 * c.points) k.points ∙ sym q.checkpoints in
        let m = ap (λ (x : ℕ). behind x 8 c.checkpoints) n ∙ ap (λ (x : ℕ). x + 8 * c.checkpoints) k.checkpoints ∙ sym q.stops in
        let e = ap (λ (x : ℕ). behind x 6 c.stops) m ∙ ap (λ (x : ℕ). x + 6 * c.stops) k.stops ∙ sym q.exits in
        λ i. record { segments = p.segments; lanes = p.lanes; zones = z i; spots = p.spots; points = o i; checkpoints = n i; stops = m i; exits = e i }

    tables-pass : tables_right b c p ≡ true
    unfolding tables_right
    tables-pass =
        picked_both (all_spots c.zones b p.zones p.spots) _ d.spots-pass
        (picked_both (points_right c.points b p.points) _ d.rest.points (picked_both (numbers_right c.checkpoints b p.checkpoints []) (records_here c.stops 4 (drop p.stops b)) d.rest.checkpoints d.rest.stops))

    linked-pass : linked b c p point ≡ true
    linked-pass = linked-kept b c p point kept ∙ picked_both (exits-fit b c p point) (parts-fit b c p point) d.rest.exits d.rest.parts

    places-told : with_places_of b c r p point ≡ Some (c, r, p)
    unfolding with_places_of
    places-told =
        let e = ap (λ (x : ℕ). x + 10 * c.exits) kept.exits ∙ d.places.end in
        let t = eq-eqb (behind p.exits 10 c.exits) (length b) e in
        λ i. pick (t i) (pick (tables-pass i) (pick (linked-pass i) (Some (c, r, p)) None) None) None

    lanes-told : with_lanes_of b c r p.segments p.lanes ≡ by_zones_of b c r p.segments p.lanes point (Some (p.spots, c.points, c.spots))
    unfolding with_lanes_of
    lanes-told =
        let k = kept.lanes in
        let z = ap (λ (x : ℕ). x + 12 * c.lanes) k ∙ sym d.places.zones in
        let t = d.rest.lanes in
        let n = d.zones-pass in
        (λ i. pick (t i) (by_zones_of b c r p.segments p.lanes (last_end b (k i) c.lanes) (zones_told (zones c.zones b (z i) (last_end b (k i) c.lanes, 0)))) None)
        ∙ ap (by_zones_of b c r p.segments p.lanes point) n

    same : (n : ℕ) (x : Option (Counts × FileRow × Places)) → pick (eqb n n) x None ≡ x
    same n x = ap (λ (t : Bool). pick t x None) (eq-eqb n n refl)

    told : judgement b ≡ Some (c, r, p)
    unfolding judgement
    told =
        ap (by_file_of b) d.file
        ∙ ap (λ (t : Bool). pick t (by_segments_of b c r p.segments (segments_told (segments c.segments b p.segments 0))) None) d.are-few
        ∙ ap (by_segments_of b c r p.segments) d.segments-pass
        ∙ same c.lanes (with_lanes_of b c r p.segments p.lanes) ∙ lanes-told
        ∙ same c.points (pick (eqb c.spots c.spots) (with_places_of b c r (places_of c p.segments p.lanes p.spots) point) None)
        ∙ same c.spots (with_places_of b c r (places_of c p.segments p.lanes p.spots) point)
        ∙ ap (λ (q : Places). with_places_of b c r q point) places_is ∙ places-told

  -- ## What is told has passed
  abbrev Sound : Option (Counts × FileRow × Places) → Type 0
  Sound None = Unit {0}
  Sound (Some (c, r, p)) = Tests b s c r p

  -- what is known behind the segments
  record Begun (c : Counts) (r : FileRow) (from lanes : ℕ) : Type 0 where
    file : file_at_of b ≡ Some (c, r, from)
    are-few : few c ≡ true
    segments-pass : segments_told (segments c.segments b from 0) ≡ Some (lanes, c.lanes)

  module _ (c : Counts) (r : FileRow) (from lanes : ℕ) (g : Begun c r from lanes) (lanes-pass : lanes_right c.lanes b lanes 0 ≡ true) where
    abbrev raw-point : ℕ
    raw-point = last_end b (fitted lanes) c.lanes

    lanes_in : lanes ≤ length b
    lanes_in =
        let f = file-so b c r from g.file in
        let h = segments-so from c.segments b from lanes c.lanes g.segments-pass in
        subst (λ (x : ℕ). x ≤ length b) (sym h.place_so) (all-inside c.segments segment-kinds b from (subst (λ (x : ℕ). x ≤ length b) (sym f.place_so) (file-inside b f.here_so)) h.all_so)

    lanes-kept : fitted lanes ≡ lanes
    lanes-kept = let l = lanes_in in keep lanes (omega arith)

    zones-so : behind lanes 12 c.lanes ≡ lanes + 12 * c.lanes
    zones-so = ap (λ (x : ℕ). x + 12 * c.lanes) lanes-kept

    zones_in : behind lanes 12 c.lanes ≤ length b
    zones_in =
        let e = zones-so in
        let f = place-fixed lane-kinds tt lanes c.lanes (drop lanes b) in
        let l = all-inside c.lanes lane-kinds b lanes lanes_in (lanes_so b s lanes c.lanes lanes 0 lanes-pass).0 in
        omega arith

    module _ (spots : ℕ) (zones-pass : zones_told (zones c.zones b (behind lanes 12 c.lanes) (raw-point, 0)) ≡ Some (spots, c.points, c.spots)) where
      abbrev p : Places
      p = places_of c from lanes spots

      all-passed : behind p.exits 10 c.exits ≡ length b → tables_right b c p ≡ true → linked b c p raw-point ≡ true → Tests b s c r p
      unfolding tables_right
      all-passed e t l =
          let e₇ = under p.exits (10 * c.exits) (omega arith) in
          let e₆ = under p.stops (6 * c.stops) e₇ in
          let e₅ = under p.checkpoints (8 * c.checkpoints) e₆ in
          let e₄ = under p.points (10 * c.points) e₅ in
          let e₃ = under spots (8 * c.spots) e₄ in
          let z = zones_in in
          let k : Kept p = record { lanes = lanes-kept; zones = keep p.zones (omega arith); spots = keep spots e₃; points = keep p.points e₄; checkpoints = keep p.checkpoints e₅; stops = keep p.stops e₆; exits = keep p.exits e₇ } in
          let t₁ = both-picked (all_spots c.zones b p.zones p.spots) _ t in
          let t₂ = both-picked (points_right c.points b p.points) _ t₁.1 in
          let t₃ = both-picked (numbers_right c.checkpoints b p.checkpoints []) (records_here c.stops 4 (drop p.stops b)) t₂.1 in
          let l₁ = both-picked (exits-fit b c p raw-point) (parts-fit b c p raw-point) (sym (linked-kept b c p raw-point k) ∙ l) in
          let v : raw-point ≡ last_end b lanes c.lanes = ap (λ (x : ℕ). last_end b x c.lanes) lanes-kept in
          record {
            file = g.file;
            are-few = g.are-few;
            segments-pass = g.segments-pass;
            zones-pass = subst (λ (x : ℕ). zones_told (zones c.zones b p.zones (x, 0)) ≡ Some (spots, c.points, c.spots)) v zones-pass;
            spots-pass = t₁.0;
            rest = subst (Tested b s (rows_told (drop 5 b)).file c p) v (record { lanes = lanes-pass; points = t₂.0; checkpoints = t₃.0; stops = t₃.1; exits = l₁.0; parts = l₁.1 });
            places = record { zones = zones-so; points = ap (λ (x : ℕ). x + 8 * c.spots) k.spots; checkpoints = ap (λ (x : ℕ). x + 10 * c.points) k.points; stops = ap (λ (x : ℕ). x + 8 * c.checkpoints) k.checkpoints; exits = ap (λ (x : ℕ). x + 6 * c.stops) k.stops; end = ap (λ (x : ℕ). x + 10 * c.exits) (sym k.exits) ∙ e; zones_inside = z };
          }

      places-sound : Sound (with_places_of b c r p raw-point)
      unfolding with_places_of
      places-sound = go (eqb (behind p.exits 10 c.exits) (length b)) refl (tables_right b c p) refl (linked b c p raw-point) refl
        where
          go : (x : Bool) → eqb (behind p.exits 10 c.exits) (length b) ≡ x → (y : Bool) → tables_right b c p ≡ y → (z : Bool) → linked b c p raw-point ≡ z → Sound (pick x (pick y (pick z (Some (c, r, p)) None) None) None)
          go true e true t true l = all-passed (eqb-true (behind p.exits 10 c.exits) (length b) e) t l
          go true e true t false l = tt
          go true e false t z l = tt
          go false e y t z l = tt

    zones-sound : (x : Option (ℕ × ℕ × ℕ)) → zones_told (zones c.zones b (behind lanes 12 c.lanes) (raw-point, 0)) ≡ x → Sound (by_zones_of b c r from lanes raw-point x)
    zones-sound None e = tt
    zones-sound (Some (spots, points, count)) e = go (eqb points c.points) refl (eqb count c.spots) refl
      where
        go : (x : Bool) → eqb points c.points ≡ x → (y : Bool) → eqb count c.spots ≡ y → Sound (pick x (pick y (with_places_of b c r (places_of c from lanes spots) raw-point) None) None)
        go true u true v = let m = eqb-true points c.points u in let n = eqb-true count c.spots v in places-sound spots (e ∙ (λ i. Some (spots, m i, n i)))
        go true u false v = tt
        go false u y v = tt

  lanes-sound : (c : Counts) (r : FileRow) (from lanes : ℕ) → Begun c r from lanes → Sound (with_lanes_of b c r from lanes)
  unfolding with_lanes_of
  lanes-sound c r from lanes g = go (lanes_right c.lanes b lanes 0) refl
    where
      go : (x : Bool) → lanes_right c.lanes b lanes 0 ≡ x → Sound (pick x (by_zones_of b c r from lanes (point_from b c lanes) (zones_told (zones c.zones b (behind lanes 12 c.lanes) (point_from b c lanes, 0)))) None)
      go true h = zones-sound c r from lanes g h (zones_told (zones c.zones b (behind lanes 12 c.lanes) (point_from b c lanes, 0))) refl
      go false h = tt

  segments-sound : (c : Counts) (r : FileRow) (from : ℕ) → file_at_of b ≡ Some (c, r, from) → few c ≡ true → (x : Option (ℕ × ℕ)) → segments_told (segments c.segments b from 0) ≡ x → Sound (by_segments_of b c r from x)
  segments-sound c r from f h None e = tt
  segments-sound c r from f h (Some (lanes, count)) e = go (eqb count c.lanes) refl
    where
      go : (x : Bool) → eqb count c.lanes ≡ x → Sound (pick x (with_lanes_of b c r from lanes) None)
      go true u = lanes-sound c r from lanes (record { file = f; are-few = h; segments-pass = e ∙ ap ((λ z. Some (lanes, z))) (eqb-true count c.lanes u) })
      go false u = tt

  file-sound : (x : Option (Counts × FileRow × ℕ)) → file_at_of b ≡ x → Sound (by_file_of b x)
  file-sound None e = tt
  file-sound (Some (c, r, from)) e = go (few c) refl
    where
      go : (x : Bool) → few c ≡ x → Sound (pick x (by_segments_of b c r from (segments_told (segments c.segments b from 0))) None)
      go true h = segments-sound c r from e h (segments_told (segments c.segments b from 0)) refl
      go false h = tt

  sound : Sound (judgement b)
  unfolding judgement
  sound = file-sound (file_at_of b) refl

  abbrev is_form : Option (Counts × FileRow × Places) → Bool
  is_form None = false
  is_form (Some (c, r, p)) = true

  -- THE LAW
  pub judges : Judges b (judgement b)
  judges = go (judgement b) refl sound
    where
      go : (v : Option (Counts × FileRow × Places)) → judgement b ≡ v → Sound v → Judges b v
      go None e x = λ (y : Right b). absurd (subst (λ (t : Bool). pick t ⊥ (Unit {0})) (ap is_form (sym e ∙ told _ _ _ (tests-all b s y))) tt)
      go (Some (c, r, q)) e x = tests-so b s c r q x
