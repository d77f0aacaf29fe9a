-- What is put for the lanes of a segment are their features, each with its comma. Assumes nothing.
use mathlib.Core.Path.{◌≡◌, refl, sym, ap, ◌∙◌}
use mathlib.Core.List.{List, [], ◌∷◌, ◌++◌, map, map-append, append_assoc}
use mathlib.Core.Option.{Option, none, some}
use Prim.Native.Nat.{ℕ, suc, ◌+◌, ◌≤◌, min}
use native.Mathlib.Omega.{arith}
use native.Mathlib.Numerals.{add-one}
use borrow.Author.Tests.{ne_eqb}
use lib.ListN.{length, length-map}
use lib.IntN.{ℤ}
use Rattle.terms.specs.Ascii.{Bytes, ascii}
use Rattle.line.specs.Content.{Field}
use Rattle.number.specs.House.{house_pair}
use Rattle.rows.specs.declared.LaneRow.{LaneRow}
use Rattle.rows.specs.declared.SegmentRow.{SegmentRow}
use Rattle.rows.specs.Read.{the_stretch_of, point_at_of, lane_at_of}
use Rattle.rows.specs.Name.{name_of}
use Rattle.filled_rows.specs.From.{From}
use Rattle.filled_rows.proofs.From.{from_parts}
use Rattle.law.specs.Network.{Lane}
use Rattle.law.specs.Tables.{gather, lane_size}
use Rattle.law.specs.Along.{along}
use Rattle.grammar.specs.Tables.{lane_row}
use Rattle.table_words.specs.FileRows.{shown_name}
use Rattle.table_words.specs.Shown.{shown_lane, shown_point}
use Rattle.features.specs.Drawn.{each, quoted, comma_from, lane_shape, named, lane, behind_one_of, lane_from}
use Rattle.map_law.specs.Map as Map
use Rattle.map_tables.specs.Marked.{marks}
use Rattle.map_tables.proofs.Shapes.{quoted-is, lane-shape-is}
use Rattle.map_tables.proofs.Features.{lane-unnamed, lane-named}

-- a name's place in the text
abbrev pub start_of : Field → ℕ
start_of name = name.start

abbrev pub length-of : Field → ℕ
length-of name = length name.bytes

-- asking for it gives its bytes, and there are some
abbrev pub Held : Bytes → Option Field → Type 0
Held text none = Unit {0}
Held text (some v) = (name_of text (the_stretch_of v.start (length v.bytes)) ≡ v.bytes) × (1 ≤ length v.bytes)

with_name_of : (text : Bytes) (name : Option Field) → Held text name → (m n : ℕ) (shape : Bytes)
    → ascii "{\"type\":\"Feature\",\"geometry\":" ++ shape ++ ascii ",\"properties\":{\"kind\":\"lane\",\"id\":\"" ++ house_pair m n ++ named text (shown_name start_of length-of name) ≡ Map.feature "lane" (m ∷ n ∷ []) (Map.named name) shape
unfolding named
with_name_of text none h m n shape = lane-unnamed m n shape
with_name_of text (some v) h m n shape =
    rw (ne_eqb (length v.bytes) 0 (λ (e : length v.bytes ≡ 0). omega (arith, h.1)))
    (ap (λ (x : Bytes). ascii "{\"type\":\"Feature\",\"geometry\":" ++ shape ++ ascii ",\"properties\":{\"kind\":\"lane\",\"id\":\"" ++ house_pair m n ++ (ascii "\",\"name\":" ++ x ++ ascii "}}")) (ap quoted h.0 ∙ quoted-is v.bytes)
    ∙ lane-named m n shape v.bytes)

module _ (text : Bytes) (ps : List ℤ) (name : Option Field) (held : Held text name) (m : ℕ) where
  -- one lane
  lane-is : (n first : ℕ) (a : Lane) (row : LaneRow) → row ≡ shown_lane (lane_row first a) → From (point_at_of ps) first (map shown_point a.points) → lane text ps (shown_name start_of length-of name) m n row ≡ Map.lane_feature name m n a
  unfolding lane
  lane-is n first a row e h =
      ap (lane text ps (shown_name start_of length-of name) m n) e
      ∙ ap (λ (x : Bytes). ascii "{\"type\":\"Feature\",\"geometry\":" ++ x ++ ascii ",\"properties\":{\"kind\":\"lane\",\"id\":\"" ++ house_pair m n ++ named text (shown_name start_of length-of name)) (lane-shape-is ps first a.points h)
      ∙ with_name_of text name held m n (Map.lane_geometry a.points)

  -- the lanes from the j-th on, whose rows begin at base + j and whose points begin at p
  module _ (lanes : List ℕ) (base count : ℕ) where
    abbrev the_row_of : SegmentRow
    the_row_of = record { first_lane = base; lanes = count; name = shown_name start_of length-of name }

    pub lanes-are : (j p : ℕ) (ls : List Lane) → j + length ls ≤ 32768 → From (lane_at_of lanes) (base + j) (map shown_lane (along lane_size (λ f a. lane_row f a ∷ []) p ls)) → From (point_at_of ps) p (map shown_point (gather (λ a. a.points) ls))
        → each (lane_from text lanes ps m the_row_of) j (length ls) ≡ marks (base + j) (Map.numbered (suc j) (λ n a. Map.lane_feature name m n a ∷ []) ls)
    unfolding each lane_from marks
    lanes-are j p [] few rows points = refl
    lanes-are j p (a ∷ ls) few rows points =
        let here = from_parts (point_at_of ps) p (map shown_point a.points) (map shown_point (gather (λ a. a.points) ls)) (rw (sym (map-append shown_point a.points (gather (λ a. a.points) ls))) points) in
        let number : min (0 + j + 1) 4294967295 ≡ suc j = omega arith in
        let next : suc (base + j) ≡ base + suc j = omega arith in
        let last : suc (suc j) ≡ suc j + 1 = omega arith in
        let rest = lanes-are (suc j) (p + length a.points) ls (omega arith) (rw (sym next) rows.1) (rw (sym (length-map a.points shown_point)) here.1) in
        append_assoc (comma_from (base + j)) (lane text ps (shown_name start_of length-of name) m (behind_one_of 0 j) (lane_at_of lanes (base + j))) (each (lane_from text lanes ps m the_row_of) (suc j) (length ls))
        ∙ ap (λ (n : ℕ). comma_from (base + j) ++ (lane text ps (shown_name start_of length-of name) m n (lane_at_of lanes (base + j)) ++ each (lane_from text lanes ps m the_row_of) (suc j) (length ls))) number
        ∙ (λ i. comma_from (base + j) ++ (lane-is (suc j) p a (lane_at_of lanes (base + j)) rows.0 here.0 i ++ rest i))
        ∙ (λ i. comma_from (base + j) ++ (Map.lane_feature name m (suc j) a ++ marks (sym next i) (Map.numbered (last i) (λ n a. Map.lane_feature name m n a ∷ []) ls)))
