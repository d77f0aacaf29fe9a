-- What is put for all zones are the features of their perimeters, each with its comma. Assumes nothing.
use mathlib.Core.Path.{◌≡◌, refl, sym, ap, ◌∙◌}
use mathlib.Core.List.{List, [], ◌∷◌, ◌++◌, map, map-append, append_assoc}
use mathlib.Core.Option.{Option, none, some}
use Prim.Native.Nat.{ℕ, suc, ◌+◌, ◌≤◌, min}
use native.Mathlib.Omega.{arith}
use borrow.Author.Tests.{ne_eqb}
use lib.ListN.{length, length-map}
use lib.IntN.{ℤ}
use Rattle.terms.specs.Ascii.{Bytes, ascii}
use Rattle.terms.specs.Words.{Each}
use Rattle.line.specs.Content.{Field}
use Rattle.number.specs.House.{house_pair}
use Rattle.rows.specs.declared.ZoneRow.{ZoneRow}
use Rattle.rows.specs.Read.{point_at_of, zone_at_of}
use Rattle.filled_rows.specs.From.{From}
use Rattle.filled_rows.proofs.From.{from_parts}
use Rattle.law.specs.Network.{Zone}
use Rattle.law.specs.Tables.{gather, spot_points, zone_points, zone_size}
use Rattle.grammar.specs.Tables.{the_zone_row_of, zone_rows_from}
use Rattle.table_words.specs.FileRows.{shown_name}
use Rattle.table_words.specs.Shown.{shown_zone, shown_point}
use Rattle.features.specs.Drawn.{each, quoted, comma_from, perimeter_shape, named, perimeter, behind_one_of, perimeter_from}
use Rattle.map_law.specs.Map as Map
use Rattle.map_tables.specs.Marked.{marks}
use Rattle.map_tables.proofs.Shapes.{quoted-is, perimeter-shape-is}
use Rattle.map_tables.proofs.Features.{perimeter-unnamed, perimeter-named}
use Rattle.map_tables.proofs.Lanes.{start_of, length-of, Held}

with_name_of : (text : Bytes) (name : Option Field) → Held text name → (m : ℕ) (shape : Bytes)
    → ascii ",{\"type\":\"Feature\",\"geometry\":" ++ shape ++ ascii ",\"properties\":{\"kind\":\"perimeter\",\"id\":\"" ++ house_pair m 0 ++ named text (shown_name start_of length-of name) ≡ ascii "," ++ Map.feature "perimeter" (m ∷ 0 ∷ []) (Map.named name) shape
unfolding named
with_name_of text none h m shape = perimeter-unnamed m shape
with_name_of text (some v) h m shape =
    rw (ne_eqb (length v.bytes) 0 (λ (e : length v.bytes ≡ 0). omega (arith, h.1)))
    (ap (λ (x : Bytes). ascii ",{\"type\":\"Feature\",\"geometry\":" ++ shape ++ ascii ",\"properties\":{\"kind\":\"perimeter\",\"id\":\"" ++ house_pair m 0 ++ (ascii "\",\"name\":" ++ x ++ ascii "}}")) (ap quoted h.0 ∙ quoted-is v.bytes)
    ∙ perimeter-named m shape v.bytes)

module _ (text : Bytes) (ps : List ℤ) where
  -- one perimeter
  perimeter-is : (m point spot : ℕ) (z : Zone Field) (row : ZoneRow) → Held text z.name → row ≡ shown_zone start_of length-of (the_zone_row_of point spot z) → From (point_at_of ps) point (map shown_point z.border.points) → perimeter text ps m row ≡ ascii "," ++ Map.perimeter_feature m z
  unfolding perimeter
  perimeter-is m point spot z row held e h =
      ap (perimeter text ps m) e
      ∙ ap (λ (x : Bytes). ascii ",{\"type\":\"Feature\",\"geometry\":" ++ x ++ ascii ",\"properties\":{\"kind\":\"perimeter\",\"id\":\"" ++ house_pair m 0 ++ named text (shown_name start_of length-of z.name)) (perimeter-shape-is ps point z.border.points h)
      ∙ with_name_of text z.name held m (Map.perimeter_geometry z.border.points)

  -- the zones from the k-th on, behind so many segments, whose points begin at `point`
  pub perimeters_are : (zones : List ℕ) (segments k point spot i : ℕ) (zs : List (Zone Field)) → segments + (k + length zs) ≤ 32768 → Each (λ z. Held text z.name) zs
      → From (zone_at_of zones) k (map (shown_zone start_of length-of) (zone_rows_from point spot zs))
      → From (point_at_of ps) point (map shown_point (gather zone_points zs))
      → each (perimeter_from text zones ps segments) k (length zs) ≡ marks (suc i) (Map.numbered (suc (segments + k)) (λ m z. Map.perimeter_feature m z ∷ []) zs)
  unfolding each perimeter_from marks comma_from
  perimeters_are zones segments k point spot i [] few held rows points = refl
  perimeters_are zones segments k point spot i (z ∷ zs) few held rows points =
      let q = from_parts (point_at_of ps) point (map shown_point (zone_points z)) (map shown_point (gather zone_points zs)) (rw (sym (map-append shown_point (zone_points z) (gather zone_points zs))) points) in
      let own = from_parts (point_at_of ps) point (map shown_point z.border.points) (map shown_point (gather spot_points z.spots)) (rw (sym (map-append shown_point z.border.points (gather spot_points z.spots))) q.0) in
      let long : length (map shown_point (zone_points z)) ≡ zone_size z = length-map (zone_points z) shown_point in
      let number : min (segments + k + 1) 4294967295 ≡ suc (segments + k) = omega arith in
      let last : suc (segments + suc k) ≡ suc (segments + k) + 1 = omega arith in
      let rest = perimeters_are zones segments (suc k) (point + zone_size z) (spot + length z.spots) (suc i) zs (omega arith) held.1 rows.1 (rw (sym long) q.1) in
      ap (λ (n : ℕ). perimeter text ps n (zone_at_of zones k) ++ each (perimeter_from text zones ps segments) (suc k) (length zs)) number
      ∙ (λ j. perimeter-is (suc (segments + k)) point spot z (zone_at_of zones k) held.0 rows.0 own.0 j ++ rest j)
      ∙ append_assoc (ascii ",") (Map.perimeter_feature (suc (segments + k)) z) (marks (suc (suc i)) (Map.numbered (suc (segments + suc k)) (λ m z. Map.perimeter_feature m z ∷ []) zs))
      ∙ ap (λ (n : ℕ). ascii "," ++ (Map.perimeter_feature (suc (segments + k)) z ++ marks (suc (suc i)) (Map.numbered n (λ m z. Map.perimeter_feature m z ∷ []) zs))) last
