-- What is put of rows that read as a part's points, name and identifiers are that part's geometry and feature. Assumes nothing.
use mathlib.Core.Path.{◌≡◌, refl, sym, ap, ◌∙◌}
use mathlib.Core.List.{List, [], ◌∷◌, ◌++◌, map, map-append, append_assoc, append-nil}
use mathlib.Core.Bool.{Bool, true, false}
use Prim.Native.Nat.{ℕ, suc, ◌+◌, ◌-◌}
use borrow.Author.Tests.{eq-eqb, ne_eqb, lt-ltb, le-ltb}
use native.Mathlib.Omega.{arith}
use lib.ListN.{length, length-append, length-map}
use lib.IntN.{ℤ}
use Rattle.terms.specs.Ascii.{Bytes, ascii}
use Rattle.coordinate.specs.House.{house_coordinate}
use Rattle.rows.specs.declared.PointRow.{PointRow}
use Rattle.rows.specs.Read.{point_at_of}
use Rattle.filled_rows.specs.From.{From}
use Rattle.filled_rows.proofs.From.{from_parts}
use Rattle.law.specs.Network.{Position}
use Rattle.table_words.specs.Shown.{shown_point}
use Rattle.features.specs.Drawn.{each, escaped, escapes, quoted, comma_from, position_at, position_from, position_back, positions, ring, lane_shape, perimeter_shape}
use Rattle.law.specs.Tables.{gather}
use Rattle.map_law.specs.Map as Map
use Rattle.map_law.specs.Map.{commas}
use Rattle.map_tables.specs.Marked.{marks}
use Rattle.map_tables.proofs.Marks.{commas-is, marks_append}

-- a position
pub position-is : (ps : List ℤ) (row : ℕ) (p : Position) → point_at_of ps row ≡ shown_point p → position_at ps row ≡ Map.position p
unfolding position_at ascii commas
position-is ps row p e =
    ap (λ (q : PointRow). ascii "[" ++ house_coordinate q.longitude ++ ascii "," ++ house_coordinate q.latitude ++ ascii "]") e
    ∙ ap (λ (x : Bytes). ascii "[" ++ (x ++ ascii "]")) (append_assoc (house_coordinate p.longitude) (ascii ",") (house_coordinate p.latitude))

-- positions from the k-th on, each with its comma
positions-from : (ps : List ℤ) (first k : ℕ) (l : List Position) → From (point_at_of ps) (first + k) (map shown_point l) → each (position_from ps first) k (length l) ≡ marks k (map Map.position l)
unfolding each position_from marks
positions-from ps first k [] h = refl
positions-from ps first k (p ∷ l) h =
    let e : suc (first + k) ≡ first + suc k = omega arith in
    append_assoc (comma_from k) (position_at ps (first + k)) (each (position_from ps first) (suc k) (length l))
    ∙ (λ i. comma_from k ++ (position-is ps (first + k) p h.0 i ++ positions-from ps first (suc k) l (rw (sym e) h.1) i))

pub positions-are : (ps : List ℤ) (first : ℕ) (l : List Position) → From (point_at_of ps) first (map shown_point l) → positions ps first (length l) ≡ commas (map Map.position l)
unfolding positions
positions-are ps first l h = let e : first ≡ first + 0 = omega arith in positions-from ps first 0 l (rw (sym e) h) ∙ sym (commas-is (map Map.position l))

-- a name
escapes-are : (s : Bytes) → escapes s ≡ gather Map.escaped s
unfolding escapes escaped
escapes-are [] = refl
escapes-are (b ∷ s) = ap (λ (x : Bytes). Map.escaped b ++ x) (escapes-are s)

pub quoted-is : (s : Bytes) → quoted s ≡ Map.quoted s
unfolding quoted ascii
quoted-is s = ap (λ (x : Bytes). ascii "\"" ++ (x ++ ascii "\"")) (escapes-are s)

-- ## Rings
backwards_append : {A : Type 0} (x y : List A) → Map.backwards (x ++ y) ≡ Map.backwards y ++ Map.backwards x
backwards_append [] y = sym (append-nil (Map.backwards y))
backwards_append (a ∷ x) y = ap (λ l. l ++ (a ∷ [])) (backwards_append x y) ∙ append_assoc (Map.backwards y) (Map.backwards x) (a ∷ [])

backwards-twice : {A : Type 0} (l : List A) → Map.backwards (Map.backwards l) ≡ l
backwards-twice [] = refl
backwards-twice (a ∷ l) = backwards_append (Map.backwards l) (a ∷ []) ∙ ap (◌∷◌ a) (backwards-twice l)

length-backwards : {A : Type 0} (l : List A) → length (Map.backwards l) ≡ length l
length-backwards [] = refl
length-backwards (a ∷ l) = let e = length-append (Map.backwards l) (a ∷ []) in let i = length-backwards l in omega arith

-- the k-th and all behind it, of n, where r is what is left, the last of the file first
back_from : (ps : List ℤ) (first n k : ℕ) (r : List Position) → n ≡ k + length r → From (point_at_of ps) first (map shown_point (Map.backwards r)) → each (position_back ps first n) k (length r) ≡ marks k (map Map.position r)
unfolding each position_back marks
back_from ps first n k [] e h = refl
back_from ps first n k (p ∷ r) e h =
    let parts = from_parts (point_at_of ps) first (map shown_point (Map.backwards r)) (shown_point p ∷ []) (rw (sym (map-append shown_point (Map.backwards r) (p ∷ []))) h) in
    let len : length (map shown_point (Map.backwards r)) ≡ length r = length_map-shown r in
    let at : first + length (map shown_point (Map.backwards r)) ≡ first + (n - 1 - k) = omega arith in
    append_assoc (comma_from k) (position_at ps (first + (n - 1 - k))) (each (position_back ps first n) (suc k) (length r))
    ∙ (λ i. comma_from k ++ (position-is ps (first + (n - 1 - k)) p (ap (point_at_of ps) (sym at) ∙ parts.1.0) i ++ back_from ps first n (suc k) r (omega arith) parts.0 i))
  where
    length_map-shown : (r : List Position) → length (map shown_point (Map.backwards r)) ≡ length r
    length_map-shown r = length-map (Map.backwards r) shown_point ∙ length-backwards r

-- a ring: the points from the last, q, to the first, and the last once more
ring_of : (ps : List ℤ) (first : ℕ) (q : Position) (r : List Position) → From (point_at_of ps) first (map shown_point (Map.backwards (q ∷ r))) → ring ps first (suc (length r)) ≡ commas (map Map.position (Map.closed (q ∷ r)))
unfolding ring marks comma_from
ring_of ps first q r h =
    let parts = from_parts (point_at_of ps) first (map shown_point (Map.backwards r)) (shown_point q ∷ []) (rw (sym (map-append shown_point (Map.backwards r) (q ∷ []))) h) in
    let len : length (map shown_point (Map.backwards r)) ≡ length r = length-map (Map.backwards r) shown_point ∙ length-backwards r in
    let at : first + length (map shown_point (Map.backwards r)) ≡ first + (suc (length r) - 1) = omega arith in
    let one = position-is ps (first + (suc (length r) - 1)) q (ap (point_at_of ps) (sym at) ∙ parts.1.0) in
    let all = back_from ps first (suc (length r)) 0 (q ∷ r) (omega arith) h in
    (λ i. all i ++ ascii "," ++ one i)
    ∙ append_assoc (marks 0 (map Map.position (q ∷ r))) (ascii ",") (Map.position q)
    ∙ ap (λ (x : Bytes). marks 0 (map Map.position (q ∷ r)) ++ (ascii "," ++ x)) (sym (append-nil (Map.position q)))
    ∙ ap (λ (j : ℕ). marks 0 (map Map.position (q ∷ r)) ++ marks j (Map.position q ∷ [])) (let e : suc (length (map Map.position r)) ≡ 0 + length (map Map.position (q ∷ r)) = omega arith in e)
    ∙ sym (marks_append 0 (map Map.position (q ∷ r)) (Map.position q ∷ []))
    ∙ ap (marks 0) (sym (map-append Map.position (q ∷ r) (q ∷ [])))
    ∙ sym (commas-is (map Map.position (Map.closed (q ∷ r))))

pub ring-is : (ps : List ℤ) (first : ℕ) (p : Position) (l : List Position) → From (point_at_of ps) first (map shown_point (p ∷ l)) → ring ps first (length (p ∷ l)) ≡ commas (map Map.position (Map.closed (Map.backwards (p ∷ l))))
ring-is ps first p l h = go (Map.backwards (p ∷ l)) (backwards-twice (p ∷ l)) (length-backwards (p ∷ l))
  where
    go : (r : List Position) → Map.backwards r ≡ p ∷ l → length r ≡ suc (length l) → ring ps first (suc (length l)) ≡ commas (map Map.position (Map.closed r))
    go [] b e = absurd (omega arith)
    go (q ∷ r) b e = ap (ring ps first) (sym e) ∙ ring_of ps first q r (rw b h)

-- ## Geometry
pub lane-shape-is : (ps : List ℤ) (first : ℕ) (l : List Position) → From (point_at_of ps) first (map shown_point l) → lane_shape ps first (length l) ≡ Map.lane_geometry l
unfolding lane_shape positions each ascii commas
lane-shape-is ps first [] h = refl
lane-shape-is ps first (p ∷ []) h = ap (λ (x : Bytes). ascii "{\"type\":\"Point\",\"coordinates\":" ++ x ++ ascii "}") (position-is ps first p h.0)
lane-shape-is ps first (p ∷ q ∷ l) h =
    rw (ne_eqb (suc (suc (length l))) 1 (λ (e : ◌≡◌ {A = ℕ} (suc (suc (length l))) 1). omega arith))
    (ap (λ (x : Bytes). ascii "{\"type\":\"LineString\",\"coordinates\":[" ++ x ++ ascii "]}") (positions-are ps first (p ∷ q ∷ l) h)
    ∙ ap (λ (x : Bytes). ascii "{\"type\":\"LineString\",\"coordinates\":[" ++ x) (sym (append_assoc (commas (map Map.position (p ∷ q ∷ l))) (ascii "]") (ascii "}"))))

pub perimeter-shape-is : (ps : List ℤ) (first : ℕ) (l : List Position) → From (point_at_of ps) first (map shown_point l) → perimeter_shape ps first (length l) ≡ Map.perimeter_geometry l
unfolding perimeter_shape ascii commas
perimeter-shape-is ps first [] h = lane-shape-is ps first [] h
perimeter-shape-is ps first (p ∷ []) h = lane-shape-is ps first (p ∷ []) h
perimeter-shape-is ps first (p ∷ q ∷ []) h = lane-shape-is ps first (p ∷ q ∷ []) h
perimeter-shape-is ps first (p ∷ q ∷ r ∷ l) h =
    let c = commas (map Map.position (Map.closed (Map.backwards (p ∷ q ∷ r ∷ l)))) in
    rw (le-ltb (suc (suc (suc (length l)))) 3 (omega arith))
    (ap (λ (x : Bytes). ascii "{\"type\":\"Polygon\",\"coordinates\":[[" ++ x ++ ascii "]]}") (ring-is ps first p (q ∷ r ∷ l) h)
    ∙ ap (λ (x : Bytes). ascii "{\"type\":\"Polygon\",\"coordinates\":[[" ++ x) (sym (append_assoc c (ascii "]]") (ascii "}")) ∙ ap (λ (x : Bytes). x ++ ascii "}") (sym (append_assoc c (ascii "]") (ascii "]")))))
