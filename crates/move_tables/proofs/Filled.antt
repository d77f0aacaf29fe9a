-- What the filled tables of an accepted network read as: its parts and its exits. Assumes nothing.
use mathlib.Core.Path.{◌≡◌, refl, sym, ap, subst, ◌∙◌}
use mathlib.Core.List.{List, [], ◌∷◌, map, map-map}
use Prim.Native.Nat.{ℕ, suc, ◌+◌, ◌*◌, ◌≤◌}
use native.Mathlib.Omega.{arith}
use lib.Dec.{lit<}
use lib.ListN.{length, get_or, length-map}
use Rattle.terms.specs.Words.{Bytes}
use Rattle.line.specs.Line.{Field}
use Rattle.law.specs.Network.{Zone, Network, present}
use Rattle.law.specs.Tables.{Lent, lane_size, zone_size, all_lanes, first_zone_point, filled}
use Rattle.law.specs.Along.{along}
use Rattle.law.specs.Tables as Law
use Rattle.law.specs.Along as Along
use Rattle.grammar.specs.Tables.{lane_row, zone_rows_from, the_no_lane_of, the_no_zone_of, tables_with, tables, ZoneRow, ExitRow}
use Rattle.grammar.proofs.RowsInside.{zone-size-is}
use Rattle.fill.proofs.RowLaws.{total-each, one_each}
use Rattle.rows.specs.Lay.{rows_of, row_at}
use Rattle.rows.specs.Strides.{lane_stride, zone_stride, exit_stride}
use Rattle.rows.specs.Table.{table_of}
use Rattle.rows.proofs.Tables.{length-table}
use Rattle.filled_rows.specs.From.{From}
use Rattle.filled_rows.proofs.From.{from_map, words-from}
use Rattle.table_words.specs.Words.{the_lane_words_of, the_zone_words_of, the_exit_words_of, network_filled}
use Rattle.table_words.proofs.Filled.{rows_fit, name-long}
use Rattle.law_tables.proofs.SameRows.{start_of, length-of}
use Rattle.law_tables.proofs.SameTables.{filled-same, room_back}
use Rattle.law_tables.proofs.Entries.{exits-same}
use Rattle.replies.specs.Short.{AcceptsRndf}
use Rattle.moves.specs.declared.Part.{Part}
use Rattle.moves.specs.Moves.{part, lane_part_of, zone_part_of}
use Rattle.route_law.specs.Moves.{Span, lane_spans, zone_spans}
use Rattle.move_tables.specs.Reads.{span_part, Reads}

-- ## The part that a row's words tell
abbrev lane_told_of : List ℕ → Part
lane_told_of w = part (get_or w 0 0) (get_or w 0 0 + get_or w 1 0)

abbrev zone_told_of : List ℕ → Part
zone_told_of w = part (get_or w 0 0) (get_or w 0 0 + get_or w 1 0 + 2 * get_or w 3 0)

-- one row for each: told in two ways
told_same : {A R S C : Type 0} (size : A → ℕ) (row : ℕ → A → R) (other : ℕ → A → S) (g : R → C) (h : S → C) → ((p : ℕ) (a : A) → g (row p a) ≡ h (other p a))
    → (p : ℕ) (l : List A) → map g (along size (λ p a. row p a ∷ []) p l) ≡ map h (along size (λ p a. other p a ∷ []) p l)
told_same size row other g h e p [] = refl
told_same size row other g h e p (a ∷ l) = let here = e p a in let rest = told_same size row other g h e (p + size a) l in λ i. here i ∷ rest i

abbrev zone_as : ZoneRow Field → List ℕ
zone_as = the_zone_words_of start_of length-of

zone-long : (r : ZoneRow Field) → length (zone_as r) ≡ 6
zone-long r = ap (λ (k : ℕ). suc (suc (suc (suc k)))) (name-long start_of length-of r.name)

zones_told : (p q : ℕ) (l : List (Zone Field)) → map (λ r. zone_told_of (zone_as r)) (zone_rows_from p q l) ≡ map span_part (along zone_size (λ first z. record { first = first; size = zone_size z } ∷ []) p l)
zones_told p q [] = refl
zones_told p q (z ∷ l) =
    let s = zone-size-is z in
    let t = total-each 2 z.spots in
    let here : p + length z.border.points + 2 * length z.spots ≡ p + zone_size z = omega arith in
    let rest = zones_told (p + zone_size z) (q + length z.spots) l in
    λ i. part p (here i) ∷ rest i

zone-count : (p q : ℕ) (l : List (Zone Field)) → length (zone_rows_from p q l) ≡ length l
zone-count p q [] = refl
zone-count p q (z ∷ l) = ap suc (zone-count (p + zone_size z) (q + length z.spots) l)

-- ## The rows used are as many as there are parts
pub lanes-counted : (n : Network Field) → length (Law.lane_rows_of n) ≡ length (lane_spans n)
lanes-counted n = one_each lane_size _ 0 (all_lanes n) ∙ sym (one_each lane_size _ 0 (all_lanes n))

law-zone-count : (p q : ℕ) (l : List (Zone Field)) → length (Along.zone_rows_from p q l) ≡ length l
law-zone-count p q [] = refl
law-zone-count p q (z ∷ l) = ap suc (law-zone-count (p + zone_size z) (q + length z.spots) l)

pub zones-counted : (n : Network Field) → length (Law.zone_rows n) ≡ length (zone_spans n)
zones-counted n = law-zone-count (first_zone_point n) 0 n.zones ∙ sym (one_each zone_size _ (first_zone_point n) n.zones)

-- ## One table
module _ {R : Type 0} (stride : ℕ) (words : R → List ℕ) (long : (r : R) → length (words r) ≡ stride) (lent : ℕ) (rs : List R) (room : length rs ≤ rows_of lent stride) where
  -- it has the room that was lent
  there : (some : 1 ≤ stride) (k : ℕ) → k ≡ length rs → k ≤ rows_of (length (table_of 0 words lent rs)) stride
  there some k e = let l = length-table stride words some long 0 lent rs (rows_fit (length rs) lent stride room) in subst (λ (m : ℕ). k ≤ rows_of m stride) (sym l) (omega arith)

module _ (text : Bytes) (t : Lent) (n : Network Field) (a : AcceptsRndf present text t n) where
  lanes-from : From (lane_part_of (network_filled n t).lanes) 0 (map span_part (lane_spans n))
  unfolding lane_part_of tables_with
  lanes-from =
      let h = (room_back n t a.room).lanes in
      subst (From (lane_part_of (network_filled n t).lanes) 0)
      (map-map lane_told_of the_lane_words_of (tables n).lanes ∙ told_same lane_size lane_row (λ first b. record { first = first; size = lane_size b }) (λ r. lane_told_of (the_lane_words_of r)) span_part (λ p b. refl) 0 (all_lanes n))
      (from_map (row_at lane_stride (network_filled n t).lanes) lane_told_of 0 (map the_lane_words_of (tables n).lanes) (words-from lane_stride the_lane_words_of (lit< tt) (λ r. refl) the_no_lane_of (length t.lanes) (tables n).lanes (rows_fit (length (tables n).lanes) (length t.lanes) lane_stride h)))

  zones-from : From (zone_part_of (network_filled n t).zones) 0 (map span_part (zone_spans n))
  unfolding zone_part_of tables_with
  zones-from =
      let h = (room_back n t a.room).zones in
      subst (From (zone_part_of (network_filled n t).zones) 0)
      (map-map zone_told_of zone_as (tables n).zones ∙ zones_told (first_zone_point n) 0 n.zones)
      (from_map (row_at zone_stride (network_filled n t).zones) zone_told_of 0 (map zone_as (tables n).zones) (words-from zone_stride zone_as (lit< tt) zone-long the_no_zone_of (length t.zones) (tables n).zones (rows_fit (length (tables n).zones) (length t.zones) zone_stride h)))

  exits_from : From (row_at exit_stride (network_filled n t).exits) 0 (Law.exit_rows n)
  exits_from =
      let h = (room_back n t a.room).exits in
      subst (From (row_at exit_stride (network_filled n t).exits) 0) (exits-same n a.right)
      (words-from exit_stride the_exit_words_of (lit< tt) (λ r. refl) (record { point = 0; entry = 0 }) (length t.exits) (tables n).exits (rows_fit (length (tables n).exits) (length t.exits) exit_stride h))

  typed : Reads n (network_filled n t).lanes (network_filled n t).zones (network_filled n t).exits
  unfolding tables_with
  typed = let r = room_back n t a.room in record {
    lane_room = there lane_stride the_lane_words_of (λ r. refl) (length t.lanes) (tables n).lanes r.lanes (lit< tt) (length (lane_spans n)) (one_each lane_size _ 0 (all_lanes n) ∙ sym (one_each lane_size _ 0 (all_lanes n)));
    lanes_read = lanes-from;
    zone_room = there zone_stride zone_as zone-long (length t.zones) (tables n).zones r.zones (lit< tt) (length (zone_spans n)) (one_each zone_size _ (first_zone_point n) n.zones ∙ sym (zone-count (first_zone_point n) 0 n.zones));
    zones_read = zones-from;
    exit_room = there exit_stride the_exit_words_of (λ r. refl) (length t.exits) (tables n).exits r.exits (lit< tt) (length (Law.exit_rows n)) (sym (ap (λ (l : List (List ℕ)). length l) (exits-same n a.right)) ∙ length-map (tables n).exits the_exit_words_of);
    exits_read = exits_from;
  }

  -- THE LAW
  pub filled-reads : Reads n (filled n t).lanes (filled n t).zones (filled n t).exits
  filled-reads = subst (λ (l : Lent). Reads n l.lanes l.zones l.exits) (filled-same n a.right t) typed
