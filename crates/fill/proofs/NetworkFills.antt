-- THE LAW of the fill: statements that spell a network fill its tables. Assumes nothing.
use mathlib.Core.Path.{◌≡◌, sym, ap, ap₂, subst, subst₂, ◌∙◌}
use mathlib.Core.List.{List, [], ◌∷◌, map, append-nil}
use mathlib.Core.Option.{Option, none, some}
use Prim.Native.Nat.{ℕ, suc, ◌+◌}
use native.Mathlib.Omega.{arith}
use lib.ListN.{length}
use Rattle.grammar.specs.Statements.{Statement, lines, say, of_kind, Only, format_version_of, creation_date_of, RNDF_name_of, num_segments, num_zones, end_file_of}
use Rattle.grammar.specs.Network.{Network, FileOptions, SpellsNetwork}
use Rattle.grammar.specs.Tables.{the_no_lane_of, the_no_spot_of, the_no_segment_of, the_no_zone_of, gather, zone_points, first_zone_point, all_lanes, the_file_row_of, tables_with, tables_unresolved}
use Rattle.fill.specs.NetworkRows.{State, state, start, Rows, no_rows, ◌⊕◌, next, with_file, file_named_of, tabled, fill}
use Rattle.fill.proofs.Folds.{one, as_rows}
use Rattle.fill.proofs.Lines.{own, options-by}
use Rattle.fill.proofs.LaneFills.{Fills, done, ◌▸◌, last, last_name, of-segments, segments-fill}
use Rattle.fill.proofs.ZoneFills.{of-zones, the_spots_of, zones-fill}

module _ {N : Type 0} where
  abbrev FileNamed : State N → List (Statement N) → List N → List N → Type 0
  FileNamed s os vs ds = Fills os s no_rows (with_file (record { name = s.file.name; version = last s.file.version (map some vs); date = last s.file.date (map some ds) }) s)

  file_options : (os : List (Statement N)) → Only (format_version_of ∷ creation_date_of ∷ []) os → (s : State N) → FileNamed s os (of_kind format_version_of os) (of_kind creation_date_of os)
  file_options = options-by (lines N) (λ os. (s : State N) → FileNamed s os (of_kind format_version_of os) (of_kind creation_date_of os)) (format_version_of ∷ creation_date_of ∷ []) done (
    λ v os h s. subst (λ (vs : List N). FileNamed s (say format_version_of v ∷ os) vs (of_kind creation_date_of os)) (sym (own (lines N) format_version_of v os)) (one (say format_version_of v) (h (next format_version_of v s))),
    (
      λ v os h s. subst (FileNamed s (say creation_date_of v ∷ os) (of_kind format_version_of os)) (sym (own (lines N) creation_date_of v os)) (one (say creation_date_of v) (h (next creation_date_of v s))),
      tt,
    ),
  )

  given-file : (n : Network N) (os : List (Statement N)) → FileOptions n os
      → Fills os (state 0 0 0 (file_named_of n.name) the_no_segment_of the_no_lane_of the_no_zone_of the_no_spot_of) no_rows (state 0 0 0 (the_file_row_of n) the_no_segment_of the_no_lane_of the_no_zone_of the_no_spot_of)
  given-file n os g =
      let at : Option N → Option N → State N = λ v d. state 0 0 0 (record { name = n.name; version = v; date = d }) the_no_segment_of the_no_lane_of the_no_zone_of the_no_spot_of in
      subst₂ (λ (v d : Option N). Fills os (at none none) no_rows (at v d)) (ap (λ (ns : List N). last none (map some ns)) g.version ∙ last_name n.version) (ap (λ (ns : List N). last none (map some ns)) g.date ∙ last_name n.date)
      (file_options os g.no_other (at none none))

  -- the rows of a network's tables
  abbrev pub rows-of : Network N → Rows N
  rows-of n = of-segments 0 0 n.segments ⊕ of-zones (first_zone_point n) 0 n.zones

  -- how they are left
  abbrev pub end_of : Network N → State N
  end_of n = state (length (all_lanes n)) (the_spots_of n.zones) (first_zone_point n + length (gather zone_points n.zones)) (the_file_row_of n) the_no_segment_of the_no_lane_of the_no_zone_of the_no_spot_of

  pub spelled_fills : (blank : N) (n : Network N) (u : List (Statement N)) → SpellsNetwork n u → Fills u (start blank) (rows-of n) (end_of n)
  spelled_fills blank n u s =
      let f = given-file n s.options s.given in
      let g = segments-fill 1 n.segments s.segments s.each_segment 0 0 0 (the_file_row_of n) the_no_zone_of the_no_spot_of in
      let P = first_zone_point n in
      let L = length (all_lanes n) in
      let l₀ : 0 + L ≡ L = omega arith in
      let p₀ : 0 + P ≡ P = omega arith in
      let k₀ : 0 + the_spots_of n.zones ≡ the_spots_of n.zones = omega arith in
      let g₁ = subst₂ (λ (l p : ℕ). Fills s.segments (state 0 0 0 (the_file_row_of n) the_no_segment_of the_no_lane_of the_no_zone_of the_no_spot_of) (of-segments 0 0 n.segments) (state l 0 p (the_file_row_of n) the_no_segment_of the_no_lane_of the_no_zone_of the_no_spot_of)) l₀ p₀ g in
      let h = zones-fill (suc (length n.segments)) n.zones s.zones s.each_zone L 0 P (the_file_row_of n) the_no_segment_of the_no_lane_of in
      let h₁ = subst (λ (k : ℕ). Fills s.zones (state L 0 P (the_file_row_of n) the_no_segment_of the_no_lane_of the_no_zone_of the_no_spot_of) (of-zones P 0 n.zones) (state L k (P + length (gather zone_points n.zones)) (the_file_row_of n) the_no_segment_of the_no_lane_of the_no_zone_of the_no_spot_of)) k₀ h in
      let all = one (say RNDF_name_of n.name) (one (say num_segments (length n.segments)) (one (say num_zones (length n.zones)) (f ▸ (g₁ ▸ (h₁ ▸ one (say end_file_of tt) (done (end_of n))))))) in
      let a = of-segments 0 0 n.segments in
      let b = of-zones P 0 n.zones in
      rw s.spelled (as_rows all (λ i. a ⊕ record {
        segments = b.segments;
        lanes = b.lanes;
        zones = append-nil b.zones i;
        spots = append-nil b.spots i;
        points = append-nil b.points i;
        checkpoints = append-nil b.checkpoints i;
        stops = b.stops;
        exits = append-nil b.exits i;
      }))

  -- rows-of, table by table
  tables_of : (n : Network N) → tabled (the_file_row_of n) (rows-of n) ≡ tables_unresolved n
  unfolding tables_with
  tables_of n = let a = of-segments 0 0 n.segments in
      λ i. record { file = the_file_row_of n; segments = append-nil a.segments i; lanes = append-nil a.lanes i; zones = (tables_unresolved n).zones; spots = (tables_unresolved n).spots; points = (tables_unresolved n).points; checkpoints = (tables_unresolved n).checkpoints; stops = append-nil a.stops i; exits = (tables_unresolved n).exits }

  -- statements that spell a network fill its tables, the file's row among them; entries are still identifiers
  pub network_fills : (blank : N) (n : Network N) (u : List (Statement N)) → SpellsNetwork n u → fill blank u ≡ tables_unresolved n
  unfolding fill
  network_fills blank n u s = let f = spelled_fills blank n u s in
      ap₂ (λ (t : State N) (o : Rows N). tabled t.file o) f.left f.rows_are ∙ tables_of n
