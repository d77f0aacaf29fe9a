-- An entry that is declared: the row of its point is the same, looked up in the rows or counted by sizes. Assumes nothing.
use mathlib.Core.Path.{◌≡◌, refl, sym, ap, subst, ◌∙◌}
use mathlib.Core.List.{List, ◌∷◌, map}
use Prim.Native.Nat.{ℕ, suc, pred, ◌+◌, ◌-◌}
use native.Mathlib.Omega.{arith}
use lib.ListN.{length, get_or, take, length-map}
use Rattle.terms.specs.Words.{Each}
use Rattle.terms.proofs.Lists.{each_map}
use Rattle.line.specs.Content.{Field}
use Rattle.law.specs.Tables.{total, first_point_of}
use Rattle.law.specs.Tables as Law
use Rattle.grammar.specs.Statements.{PointId}
use Rattle.grammar.specs.Network.{Lane, Segment, Zone, Network}
use Rattle.grammar.specs.Tables.{ExitRow, SegmentRow, LaneRow, the_no_lane_of, the_no_segment_of, the_no_zone_of, lane_size, zone_size, the_row_of, lane_row, the_segment_row_of, zone_rows_from, all_lanes, segment_rows, lane_rows_of, first_zone_point, part_row_of, point_row_of, tables_with, tables_unresolved, tables}
use Rattle.grammar.specs.References.{Nth, first, later, Declared, waypoint, border, Sound, all_exits}
use Rattle.grammar.proofs.NthRows.{before, one_up, nth-along, nth-gather}
use Rattle.grammar.proofs.Rows.{each-of_map}
use Rattle.grammar.proofs.PointRows.{lanes_in}
use Rattle.table_words.specs.Words.{the_exit_words_of}
use Rattle.fill.specs.Resolve.{with_entry}
use Rattle.fill.proofs.RowLaws.{each-by_map, map_each}
use Rattle.fill.proofs.ReferenceLaws.{exits-with, entries_in-order}
use Rattle.law_tables.proofs.SameRows.{law-point, exits_as-law}

-- so many rows stand before the i-th thing as those before it have together
before-total : {A : Type 0} (size : A → ℕ) {i : ℕ} {a : A} {l : List A} (t : Nth i a l) → before size t ≡ total size (take (pred i) l)
unfolding before
before-total size first = refl
before-total size (later {i = i} {b = b} {l = l} t) = ap (◌+◌ (size b)) (before-total size t) ∙ sym (ap (λ (j : ℕ). total size (take j (b ∷ l))) (one_up t))

-- the zone's row says where its points begin
zone-first : {N : Type 0} (p q : ℕ) {i : ℕ} {z : Zone N} {l : List (Zone N)} (t : Nth i z l) → (get_or (zone_rows_from p q l) (pred i) the_no_zone_of).first_point_of ≡ p + before zone_size t
unfolding before
zone-first p q first = omega arith
zone-first p q (later {i = i} {b = b} {l = l} t) =
    let h = zone-first (p + zone_size b) (q + length b.spots) t in
    let e : (p + zone_size b) + before zone_size t ≡ p + (zone_size b + before zone_size t) = omega arith in
    ap (λ (j : ℕ). (get_or (zone_rows_from p q (b ∷ l)) j the_no_zone_of).first_point_of) (one_up t) ∙ h ∙ e

module _ (n : Network Field) where
  lane-there : (x y : ℕ) (s : Segment Field) (a : Lane) → Nth x s n.segments → Nth y a s.lanes → part_row_of n x y ≡ first_point_of n x y
  lane-there x y s a i j =
      let lane : Nth (before lanes_in i + y) a (all_lanes n) = nth-gather (λ s. s.lanes) i j in
      let f : (get_or (segment_rows n) (pred x) the_no_segment_of).first_lane ≡ 0 + before lanes_in i = ap (λ (r : SegmentRow Field). r.first_lane) (nth-along lanes_in the_segment_row_of the_no_segment_of 0 i) in
      let u = one_up j in let v = one_up lane in
      let w : (get_or (segment_rows n) (pred x) the_no_segment_of).first_lane + pred y ≡ pred (before lanes_in i + y) = omega arith in
      let z : 0 + before lane_size lane ≡ before lane_size lane = omega arith in
      let k = before-total lanes_in i in
      let m : pred (before lanes_in i + y) ≡ total lanes_in (take (pred x) n.segments) + pred y = omega arith in
      ap (part_row_of n x) u ∙ ap (λ (k : ℕ). (get_or (lane_rows_of n) k the_no_lane_of).first_point_of) w ∙ ap (λ (r : LaneRow). r.first_point_of) (nth-along lane_size lane_row the_no_lane_of 0 lane) ∙ z
      ∙ before-total lane_size lane ∙ ap (λ (k : ℕ). total lane_size (take k (all_lanes n))) m ∙ sym (ap (first_point_of n x) u)

  zone-there : (x y i : ℕ) (z : Zone Field) → y ≡ 0 → x ≡ length n.segments + i → Nth i z n.zones → part_row_of n x y ≡ first_point_of n x y
  zone-there x y i z ey ex t =
      let u : x - length n.segments ≡ i = omega arith in
      let o = one_up t in
      let v : pred i ≡ x - suc (length n.segments) = omega arith in
      ap (part_row_of n x) ey ∙ ap (λ (k : ℕ). (get_or (zone_rows_from (first_zone_point n) 0 n.zones) (pred k) the_no_zone_of).first_point_of) u ∙ zone-first (first_zone_point n) 0 t
      ∙ ap (◌+◌ (first_zone_point n)) (before-total zone_size t ∙ ap (λ (k : ℕ). total zone_size (take k n.zones)) v) ∙ sym (ap (first_point_of n x) ey)

  pub point_as-law : (e : PointId) → Declared n e → point_row_of n e ≡ law-point n e
  point_as-law e (waypoint s a i j b) = ap (λ (p : ℕ). the_row_of p e.z) (lane-there e.x e.y s a i j)
  point_as-law e (border i z ey ex t b) = ap (λ (p : ℕ). the_row_of p e.z) (zone-there e.x e.y i z ey ex t)

  -- ## The exits' rows
  -- as many, however the entries are looked up
  pub exits-count : length (tables n).exits ≡ length (Law.exit_rows n)
  exits-count = sym (ap (λ (l : List (ExitRow ℕ)). length l) (exits-with (point_row_of n) n)) ∙ length-map (tables_unresolved n).exits (with_entry (point_row_of n)) ∙ sym (length-map (tables_unresolved n).exits (with_entry (law-point n)))
      ∙ ap (λ (l : List (ExitRow ℕ)). length l) (exits-with (law-point n) n) ∙ sym (length-map (tables_with (law-point n) n).exits the_exit_words_of) ∙ ap (λ (l : List (List ℕ)). length l) (exits_as-law n)

  -- THE LAW. The same rows, where every entry is declared
  pub exits-same : Sound n → map the_exit_words_of (tables n).exits ≡ Law.exit_rows n
  exits-same s = ap (map the_exit_words_of) (sym (exits-with (point_row_of n) n) ∙ map_each (with_entry (point_row_of n)) (with_entry (law-point n)) (tables_unresolved n).exits alike ∙ exits-with (law-point n) n) ∙ exits_as-law n
    where
      declared : Each (λ r. Declared n r.entry) (tables_unresolved n).exits
      declared = each-by_map (Declared n) (λ r. r.entry) (tables_unresolved n).exits (subst (Each (Declared n)) (sym (entries_in-order (λ e. e) n)) (each-of_map (Declared n) (λ e. e.entry) (all_exits n) s.entries))

      alike : Each (λ r. with_entry (point_row_of n) r ≡ with_entry (law-point n) r) (tables_unresolved n).exits
      alike = each_map (λ r. Declared n r.entry) (λ r. with_entry (point_row_of n) r ≡ with_entry (law-point n) r) (λ r d i. record { point = r.point; entry = point_as-law r.entry d i }) (tables_unresolved n).exits declared
