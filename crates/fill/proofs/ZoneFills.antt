-- What the statements of a spot, a perimeter and a zone fill. Assumes nothing.
use mathlib.Core.Path.{◌≡◌, refl, sym, ap, subst, subst₂, ◌∙◌}
use mathlib.Core.List.{List, [], ◌∷◌, ◌++◌, map, map-map, append-nil}
use mathlib.Core.Option.{Option, none, some}
use Prim.Native.Nat.{ℕ, suc, ◌+◌}
use native.Mathlib.Omega.{arith}
use lib.ListN.{length, length-append}
use Rattle.terms.specs.Words.{perhaps, InTurn, nothing, then}
use Rattle.grammar.specs.Statements.{Statement, lines, say, of_kind, Only, PointId, Position, CheckpointLine, part_id, point_id, point_line_of, zone_name_of, checkpoint, exit, spot_width_of, spot, end_spot, perimeter, num_perimeterpoints, end_perimeter, zone, num_spots, end_zone}
use Rattle.grammar.specs.Network.{Checkpoint, Spot, Perimeter, Zone, the_checkpoint_of, SpellsSpot, SpellsPerimeter, SpellsZone}
use Rattle.grammar.specs.Tables.{FileRow, SegmentRow, LaneRow, ZoneRow, SpotRow, CheckpointRow, ExitRow, feet, first_spot_of, the_no_spot_of, the_no_zone_of, gather, along, spot_points, the_spot_row_of, spot_checkpoint, exit_row, zone_points, zone_size, the_zone_row_of, zone_rows_from, over_spots}
use Rattle.grammar.proofs.Rows.{total}
use Rattle.fill.specs.NetworkRows.{State, state, Rows, no_rows, missing_width, next, with_spot, with_zone}
use Rattle.fill.proofs.Folds.{one, as_rows}
use Rattle.fill.proofs.Lines.{own, options-by}
use Rattle.fill.proofs.LaneFills.{Fills, done, ◌▸◌, last, last-feet, last_name, checkpoint-line-row, exit-line-row, pointed, points-fill}

spot-rows-of : (m n p : ℕ) (c : Option Checkpoint) → map (checkpoint-line-row p) (map (the_checkpoint_of m n) (perhaps c)) ≡ spot_checkpoint p c
spot-rows-of m n p none = refl
spot-rows-of m n p (some c) = refl

module _ {N : Type 0} where
  abbrev zone-gives : List (ZoneRow N) → List SpotRow → List Position → List CheckpointRow → List (ExitRow PointId) → Rows N
  zone-gives zs ss ps cs es = record { segments = []; lanes = []; zones = zs; spots = ss; points = ps; checkpoints = cs; stops = []; exits = es }

  -- ## Spots
  abbrev Opted : State N → List (Statement N) → List ℕ → List CheckpointLine → Type 0
  Opted s os ws cs = Fills os s (zone-gives [] [] [] (map (checkpoint-line-row s.points) cs) []) (with_spot (record { first_point_of = s.spot.first_point_of; width = last s.spot.width ws }) s)

  spot_options : (os : List (Statement N)) → Only (spot_width_of ∷ checkpoint ∷ []) os → (s : State N) → Opted s os (of_kind spot_width_of os) (of_kind checkpoint os)
  spot_options = options-by (lines N) (λ os. (s : State N) → Opted s os (of_kind spot_width_of os) (of_kind checkpoint os)) (spot_width_of ∷ checkpoint ∷ []) done (
    λ v os h s. one (say spot_width_of v) (h (next spot_width_of v s)),
    (
      λ v os h s. one (say checkpoint v) (h s),
      tt,
    ),
  )

  spot_fills : (m n : ℕ) (a : Spot) (u : List (Statement N)) → SpellsSpot m n a u → (l k p : ℕ) (f : FileRow N) (sg : SegmentRow N) (ln : LaneRow) (zn : ZoneRow N) (sp : SpotRow)
      → Fills u (state l k p f sg ln zn sp) (zone-gives [] (the_spot_row_of p a ∷ []) (spot_points a) (spot_checkpoint p a.checkpoint) []) (state l (suc k) (suc (suc p)) f sg ln zn the_no_spot_of)
  spot_fills m n a u s l k p f sg ln zn sp =
      let opened : SpotRow = record { first_point_of = p; width = missing_width } in
      let o = spot_options s.options s.given.no_other (state l k p f sg ln zn opened) in
      let w : last missing_width (of_kind spot_width_of s.options) ≡ feet a.width = ap (last missing_width) s.given.width ∙ last-feet a.width in
      let c : map (checkpoint-line-row p) (of_kind checkpoint s.options) ≡ spot_checkpoint p a.checkpoint = ap (map (checkpoint-line-row p)) s.given.checkpoints ∙ spot-rows-of m n p a.checkpoint in
      let o₁ : Fills s.options (state l k p f sg ln zn opened) (zone-gives [] [] [] (spot_checkpoint p a.checkpoint) []) (state l k p f sg ln zn (the_spot_row_of p a))
      = subst₂ (λ (w : ℕ) (c : List CheckpointRow). Fills s.options (state l k p f sg ln zn opened) (zone-gives [] [] [] c []) (state l k p f sg ln zn (record { first_point_of = p; width = w }))) w c o in
      rw s.spelled (as_rows (one (say spot (part_id m n)) (o₁ ▸ one (point_line_of (point_id m n 1) a.first) (one (point_line_of (point_id m n 2) a.second) (one (say end_spot tt) (done (state l (suc k) (suc (suc p)) f sg ln zn the_no_spot_of))))))
      (λ i. zone-gives [] (the_spot_row_of p a ∷ []) (spot_points a) (append-nil (spot_checkpoint p a.checkpoint) i) []))

  abbrev of-spots : ℕ → List Spot → Rows N
  of-spots p xs = zone-gives [] (along (λ s. 2) (λ first s. the_spot_row_of first s ∷ []) p xs) (gather spot_points xs) (along (λ s. 2) (λ first s. spot_checkpoint first s.checkpoint) p xs) []

  spots-fill : (m i : ℕ) (xs : List Spot) (w : List (Statement N)) → InTurn (SpellsSpot m) i xs w → (l k p : ℕ) (f : FileRow N) (sg : SegmentRow N) (ln : LaneRow) (zn : ZoneRow N)
      → Fills w (state l k p f sg ln zn the_no_spot_of) (of-spots p xs) (state l (k + length xs) (p + length (gather spot_points xs)) f sg ln zn the_no_spot_of)
  spots-fill m i [] w nothing l k p f sg ln zn =
      subst₂ (λ (x y : ℕ). Fills [] (state l k p f sg ln zn the_no_spot_of) no_rows (state l x y f sg ln zn the_no_spot_of)) (let e : k ≡ k + 0 = omega arith in e) (let e : p ≡ p + 0 = omega arith in e) (done (state l k p f sg ln zn the_no_spot_of))
  spots-fill m i (a ∷ xs) w (then {u = u} {v = v} s t) l k p f sg ln zn =
      let o = spot_fills m i a u s l k p f sg ln zn the_no_spot_of in
      let two : suc (suc p) ≡ p + 2 = omega arith in
      let o₁ = subst (λ (q : ℕ). Fills u (state l k p f sg ln zn the_no_spot_of) (zone-gives [] (the_spot_row_of p a ∷ []) (spot_points a) (spot_checkpoint p a.checkpoint) []) (state l (suc k) q f sg ln zn the_no_spot_of)) two o in
      let g = spots-fill m (suc i) xs v t l (suc k) (p + 2) f sg ln zn in
      let e : suc k + length xs ≡ k + length (a ∷ xs) = omega arith in
      let d : (p + 2) + length (gather spot_points xs) ≡ p + length (gather spot_points (a ∷ xs)) = omega arith in
      subst₂ (λ (x y : ℕ). Fills (u ++ v) (state l k p f sg ln zn the_no_spot_of) (of-spots p (a ∷ xs)) (state l x y f sg ln zn the_no_spot_of)) e d (o₁ ▸ g)

  -- ## Perimeters
  border-options : (os : List (Statement N)) → Only (exit ∷ []) os → (s : State N) → Fills os s (zone-gives [] [] [] [] (map (exit-line-row s.points) (of_kind exit os))) s
  border-options = options-by (lines N) (λ os. (s : State N) → Fills os s (zone-gives [] [] [] [] (map (exit-line-row s.points) (of_kind exit os))) s) (exit ∷ []) done
      (λ v os h s. one (say exit v) (h s), tt)

  abbrev bordered : ℕ → ZoneRow N → ZoneRow N
  bordered w a = record { first_point_of = a.first_point_of; points = w; first_spot_of = a.first_spot_of; spots = a.spots; name = a.name }

  border_fills : (m : ℕ) (a : Perimeter) (u : List (Statement N)) → SpellsPerimeter m a u → (t : State N)
      → Fills u t (zone-gives [] [] a.points [] (map (exit_row (λ e. e) t.points) a.exits)) (pointed (t.points + length a.points) (with_zone (bordered (length a.points) t.zone) t))
  border_fills m a u s t =
      let t₁ = with_zone (bordered (length a.points) t.zone) t in
      let o = border-options s.options s.given.no_other t₁ in
      let e : map (exit-line-row t.points) (of_kind exit s.options) ≡ map (exit_row (λ e. e) t.points) a.exits = ap (map (exit-line-row t.points)) s.given.exits ∙ rw map-map in
      let o₁ = as_rows o (λ i. zone-gives [] [] [] [] (e i)) in
      let g = points-fill m 0 1 a.points t₁ in
      rw s.spelled (as_rows (one (say perimeter (part_id m 0)) (one (say num_perimeterpoints (length a.points)) (o₁ ▸ (g ▸ one (say end_perimeter tt) (done (pointed (t.points + length a.points) t₁))))))
      (λ i. zone-gives [] [] (append-nil a.points i) [] (append-nil (map (exit_row (λ e. e) t.points) a.exits) i)))

  -- ## Zones
  abbrev ZoneNamed : State N → List (Statement N) → List N → Type 0
  ZoneNamed s os ns = Fills os s no_rows (with_zone (record { first_point_of = s.zone.first_point_of; points = s.zone.points; first_spot_of = s.zone.first_spot_of; spots = s.zone.spots; name = last s.zone.name (map some ns) }) s)

  zone_options : (os : List (Statement N)) → Only (zone_name_of ∷ []) os → (s : State N) → ZoneNamed s os (of_kind zone_name_of os)
  zone_options = options-by (lines N) (λ os. (s : State N) → ZoneNamed s os (of_kind zone_name_of os)) (zone_name_of ∷ []) done
      (λ v os h s. subst (ZoneNamed s (say zone_name_of v ∷ os)) (sym (own (lines N) zone_name_of v os)) (one (say zone_name_of v) (h (next zone_name_of v s))), tt)

  abbrev of-zone : ℕ → ℕ → Zone N → Rows N
  of-zone p k z = zone-gives (the_zone_row_of p k z ∷ []) (over_spots (λ first s. the_spot_row_of first s ∷ []) p z) (zone_points z) (over_spots (λ first s. spot_checkpoint first s.checkpoint) p z) (map (exit_row (λ e. e) p) z.border.exits)

  zone_fills : (m : ℕ) (a : Zone N) (u : List (Statement N)) → SpellsZone m a u → (l k p : ℕ) (f : FileRow N) (sg : SegmentRow N) (ln : LaneRow) (zn : ZoneRow N)
      → Fills u (state l k p f sg ln zn the_no_spot_of) (of-zone p k a) (state l (k + length a.spots) (p + zone_size a) f sg ln the_no_zone_of the_no_spot_of)
  zone_fills m a u s l k p f sg ln zn =
      let n = length a.spots in
      let row : Option N → ZoneRow N = λ x. record { first_point_of = p; points = 0; first_spot_of = first_spot_of k n; spots = n; name = x } in
      let o = zone_options s.options s.given.no_other (state l k p f sg ln (row none) the_no_spot_of) in
      let o₁ : Fills s.options (state l k p f sg ln (row none) the_no_spot_of) no_rows (state l k p f sg ln (row a.name) the_no_spot_of)
      = subst (λ (x : Option N). Fills s.options (state l k p f sg ln (row none) the_no_spot_of) no_rows (state l k p f sg ln (row x) the_no_spot_of)) (ap (λ (ns : List N). last none (map some ns)) s.given.name ∙ last_name a.name) o in
      let b = border_fills m a.border s.border s.bordered (state l k p f sg ln (row a.name) the_no_spot_of) in
      let p₁ = p + length a.border.points in
      let g = spots-fill m 1 a.spots s.spots s.each l k p₁ f sg ln (the_zone_row_of p k a) in
      let q = length-append a.border.points (gather spot_points a.spots) in
      let d : p₁ + length (gather spot_points a.spots) ≡ p + zone_size a = omega arith in
      let h = done (state l (k + n) (p₁ + length (gather spot_points a.spots)) f sg ln the_no_zone_of the_no_spot_of) in
      let all = one (say zone m) (one (say num_spots n) (o₁ ▸ (b ▸ (g ▸ one (say end_zone tt) h)))) in
      let r = of-zone p k a in
      rw (s.spelled, ← d) (as_rows all
      (λ i. zone-gives (the_zone_row_of p k a ∷ []) (append-nil r.spots i) (a.border.points ++ append-nil (gather spot_points a.spots) i) (append-nil r.checkpoints i) (append-nil r.exits i)))

  abbrev pub of-zones : ℕ → ℕ → List (Zone N) → Rows N
  of-zones p k xs = zone-gives (zone_rows_from p k xs) (along zone_size (over_spots (λ first s. the_spot_row_of first s ∷ [])) p xs) (gather zone_points xs)
      (along zone_size (over_spots (λ first s. spot_checkpoint first s.checkpoint)) p xs) (along zone_size (λ first z. map (exit_row (λ e. e) first) z.border.exits) p xs)

  -- how many spots there are
  abbrev pub the_spots_of : List (Zone N) → ℕ
  the_spots_of = total (λ z. length z.spots)

  pub zones-fill : (i : ℕ) (xs : List (Zone N)) (w : List (Statement N)) → InTurn SpellsZone i xs w → (l k p : ℕ) (f : FileRow N) (sg : SegmentRow N) (ln : LaneRow)
      → Fills w (state l k p f sg ln the_no_zone_of the_no_spot_of) (of-zones p k xs) (state l (k + the_spots_of xs) (p + length (gather zone_points xs)) f sg ln the_no_zone_of the_no_spot_of)
  zones-fill i [] w nothing l k p f sg ln =
      subst₂ (λ (x y : ℕ). Fills [] (state l k p f sg ln the_no_zone_of the_no_spot_of) no_rows (state l x y f sg ln the_no_zone_of the_no_spot_of)) (let e : k ≡ k + 0 = omega arith in e) (let e : p ≡ p + 0 = omega arith in e) (done (state l k p f sg ln the_no_zone_of the_no_spot_of))
  zones-fill i (a ∷ xs) w (then {u = u} {v = v} s t) l k p f sg ln =
      let o = zone_fills i a u s l k p f sg ln the_no_zone_of in
      let g = zones-fill (suc i) xs v t l (k + length a.spots) (p + zone_size a) f sg ln in
      let e : (k + length a.spots) + the_spots_of xs ≡ k + the_spots_of (a ∷ xs) = omega arith in
      let q = length-append (zone_points a) (gather zone_points xs) in
      let d : (p + zone_size a) + length (gather zone_points xs) ≡ p + length (gather zone_points (a ∷ xs)) = omega arith in
      subst₂ (λ (x y : ℕ). Fills (u ++ v) (state l k p f sg ln the_no_zone_of the_no_spot_of) (of-zones p k (a ∷ xs)) (state l x y f sg ln the_no_zone_of the_no_spot_of)) e d (o ▸ g)
