-- A statement at a new place: its names are known by where they stand there, and nothing else of it changes; its line is the same whatever the places of its names. Assumes nothing.
use mathlib.Core.Path.{◌≡◌, refl, sym, ap, ap₂, ◌∙◌}
use mathlib.Core.List.{List, [], ◌∷◌, ◌++◌, map}
use Prim.Native.Nat.{ℕ, suc, ◌+◌, ◌≤◌}
use native.Mathlib.Omega.{arith}
use lib.ListN.{length}
use Rattle.terms.specs.Ascii.{Bytes, ascii}
use Rattle.line.specs.Content.{Field, at}
use Rattle.grammar.specs.Statements.{Kind, Says, Statement, say, RNDF_name_of, num_segments, num_zones, format_version_of, creation_date_of, segment, num_lanes, segment_name_of, end_segment, lane, num_waypoints, lane_width_of, left_boundary_of, right_boundary_of, checkpoint, stop, exit, end_lane_of, zone, num_spots, zone_name_of, end_zone, perimeter, num_perimeterpoints, end_perimeter, spot, spot_width_of, end_spot, end_file_of, point}
use Rattle.grammar.specs.MissionStatements as M
use Rattle.grammar.specs.Renamed.{says_named, statement_named, orders_named, order_named}
use Rattle.text.specs.Said.{Said}
use Rattle.text.specs.HouseLine.{house_field, house_line}
use Rattle.text.specs.RndfLines.{rndf_line_in_of, the_rndf_line_of}
use Rattle.text.specs.MdfLines.{the_mdf_line_of}
use Rattle.text.specs.Spelling.{Name, bytes, bytes_of}
use Rattle.text.proofs.HouseLines.{placed}
use Rattle.house_text.specs.HouseText.{house_text_of}
use Rattle.house_text.proofs.Lines.{Movable, relocated}

-- the place behind the first field of a line that starts at a place, and its tab
abbrev behind-first : ℕ → List Said → ℕ
behind-first a [] = a
behind-first a (s ∷ said) = suc (a + length (house_field s))

-- a name, where it stands in such a line: it is the second field
abbrev second : ℕ → List Said → Field → Field
second a said f = at (behind-first a said) f.bytes

-- a name of which only the bytes are known
abbrev back : Name → Field
back (bytes b) = at 0 b

-- ## RNDF
rndf-moves : (a : ℕ) (k : Kind) (v : Says Field k) → the_rndf_line_of k (says_named (second a (the_rndf_line_of k v)) k v) ≡ placed a (the_rndf_line_of k v)
unfolding rndf_line_in_of house_field
rndf-moves a RNDF_name_of v = refl
rndf-moves a num_segments v = refl
rndf-moves a num_zones v = refl
rndf-moves a format_version_of v = refl
rndf-moves a creation_date_of v = refl
rndf-moves a segment v = refl
rndf-moves a num_lanes v = refl
rndf-moves a segment_name_of v = refl
rndf-moves a end_segment v = refl
rndf-moves a lane v = refl
rndf-moves a num_waypoints v = refl
rndf-moves a lane_width_of v = refl
rndf-moves a left_boundary_of v = refl
rndf-moves a right_boundary_of v = refl
rndf-moves a checkpoint v = refl
rndf-moves a stop v = refl
rndf-moves a exit v = refl
rndf-moves a end_lane_of v = refl
rndf-moves a zone v = refl
rndf-moves a num_spots v = refl
rndf-moves a zone_name_of v = refl
rndf-moves a end_zone v = refl
rndf-moves a perimeter v = refl
rndf-moves a num_perimeterpoints v = refl
rndf-moves a end_perimeter v = refl
rndf-moves a spot v = refl
rndf-moves a spot_width_of v = refl
rndf-moves a end_spot v = refl
rndf-moves a end_file_of v = refl
rndf-moves a point v = refl

rndf-few : (k : Kind) (v : Says Field k) → length (the_rndf_line_of k v) ≤ 3
unfolding rndf_line_in_of
rndf-few RNDF_name_of v = omega arith
rndf-few num_segments v = omega arith
rndf-few num_zones v = omega arith
rndf-few format_version_of v = omega arith
rndf-few creation_date_of v = omega arith
rndf-few segment v = omega arith
rndf-few num_lanes v = omega arith
rndf-few segment_name_of v = omega arith
rndf-few end_segment v = omega arith
rndf-few lane v = omega arith
rndf-few num_waypoints v = omega arith
rndf-few lane_width_of v = omega arith
rndf-few left_boundary_of v = omega arith
rndf-few right_boundary_of v = omega arith
rndf-few checkpoint v = omega arith
rndf-few stop v = omega arith
rndf-few exit v = omega arith
rndf-few end_lane_of v = omega arith
rndf-few zone v = omega arith
rndf-few num_spots v = omega arith
rndf-few zone_name_of v = omega arith
rndf-few end_zone v = omega arith
rndf-few perimeter v = omega arith
rndf-few num_perimeterpoints v = omega arith
rndf-few end_perimeter v = omega arith
rndf-few spot v = omega arith
rndf-few spot_width_of v = omega arith
rndf-few end_spot v = omega arith
rndf-few end_file_of v = omega arith
rndf-few point v = omega arith

pub rndf_movable : Movable the_rndf_line_of
rndf_movable = record { move = λ a k v. says_named (second a (the_rndf_line_of k v)) k v; moves = rndf-moves; few = rndf-few }

-- its names' bytes stay
rndf-kept : (a : ℕ) (k : Kind) (v : Says Field k) → says_named bytes_of k (says_named (second a (the_rndf_line_of k v)) k v) ≡ says_named bytes_of k v
rndf-kept a RNDF_name_of v = refl
rndf-kept a num_segments v = refl
rndf-kept a num_zones v = refl
rndf-kept a format_version_of v = refl
rndf-kept a creation_date_of v = refl
rndf-kept a segment v = refl
rndf-kept a num_lanes v = refl
rndf-kept a segment_name_of v = refl
rndf-kept a end_segment v = refl
rndf-kept a lane v = refl
rndf-kept a num_waypoints v = refl
rndf-kept a lane_width_of v = refl
rndf-kept a left_boundary_of v = refl
rndf-kept a right_boundary_of v = refl
rndf-kept a checkpoint v = refl
rndf-kept a stop v = refl
rndf-kept a exit v = refl
rndf-kept a end_lane_of v = refl
rndf-kept a zone v = refl
rndf-kept a num_spots v = refl
rndf-kept a zone_name_of v = refl
rndf-kept a end_zone v = refl
rndf-kept a perimeter v = refl
rndf-kept a num_perimeterpoints v = refl
rndf-kept a end_perimeter v = refl
rndf-kept a spot v = refl
rndf-kept a spot_width_of v = refl
rndf-kept a end_spot v = refl
rndf-kept a end_file_of v = refl
rndf-kept a point v = refl

pub rndf-relocated : (a : ℕ) (said : List (Statement Field)) → map (statement_named bytes_of) (relocated the_rndf_line_of rndf_movable a said) ≡ map (statement_named bytes_of) said
unfolding relocated rndf_movable
rndf-relocated a [] = refl
rndf-relocated a (s ∷ said) = ap₂ (λ (v : Says Name s.kind) (l : List (Statement Name)). say s.kind v ∷ l) (rndf-kept a s.kind s.val) (rndf-relocated (a + suc (length (house_line (the_rndf_line_of s.kind s.val)))) said)

-- what is written are its names' bytes
rndf-line-kept : (k : Kind) (v : Says Field k) → house_line (the_rndf_line_of k (says_named back k (says_named bytes_of k v))) ≡ house_line (the_rndf_line_of k v)
unfolding rndf_line_in_of house_field
rndf-line-kept RNDF_name_of v = refl
rndf-line-kept num_segments v = refl
rndf-line-kept num_zones v = refl
rndf-line-kept format_version_of v = refl
rndf-line-kept creation_date_of v = refl
rndf-line-kept segment v = refl
rndf-line-kept num_lanes v = refl
rndf-line-kept segment_name_of v = refl
rndf-line-kept end_segment v = refl
rndf-line-kept lane v = refl
rndf-line-kept num_waypoints v = refl
rndf-line-kept lane_width_of v = refl
rndf-line-kept left_boundary_of v = refl
rndf-line-kept right_boundary_of v = refl
rndf-line-kept checkpoint v = refl
rndf-line-kept stop v = refl
rndf-line-kept exit v = refl
rndf-line-kept end_lane_of v = refl
rndf-line-kept zone v = refl
rndf-line-kept num_spots v = refl
rndf-line-kept zone_name_of v = refl
rndf-line-kept end_zone v = refl
rndf-line-kept perimeter v = refl
rndf-line-kept num_perimeterpoints v = refl
rndf-line-kept end_perimeter v = refl
rndf-line-kept spot v = refl
rndf-line-kept spot_width_of v = refl
rndf-line-kept end_spot v = refl
rndf-line-kept end_file_of v = refl
rndf-line-kept point v = refl

rndf-by-bytes : (said : List (Statement Field)) → house_text_of the_rndf_line_of (map (statement_named back) (map (statement_named bytes_of) said)) ≡ house_text_of the_rndf_line_of said
unfolding house_text_of
rndf-by-bytes [] = refl
rndf-by-bytes (s ∷ said) = ap₂ (λ (l t : Bytes). (l ++ ascii "\n") ++ t) (rndf-line-kept s.kind s.val) (rndf-by-bytes said)

-- so statements that differ in the places of names only have one house writing
pub rndf-one-text : (said said' : List (Statement Field)) → map (statement_named bytes_of) said ≡ map (statement_named bytes_of) said' → house_text_of the_rndf_line_of said ≡ house_text_of the_rndf_line_of said'
rndf-one-text said said' e = sym (rndf-by-bytes said) ∙ ap (λ (l : List (Statement Name)). house_text_of the_rndf_line_of (map (statement_named back) l)) e ∙ rndf-by-bytes said'

-- ## MDF
mdf-moves : (a : ℕ) (k : M.Kind) (v : M.Says Field k) → the_mdf_line_of k (orders_named (second a (the_mdf_line_of k v)) k v) ≡ placed a (the_mdf_line_of k v)
unfolding the_mdf_line_of house_field
mdf-moves a M.MDF_name_of v = refl
mdf-moves a M.RNDF v = refl
mdf-moves a M.format_version_of v = refl
mdf-moves a M.creation_date_of v = refl
mdf-moves a M.checkpoints v = refl
mdf-moves a M.num_checkpoints v = refl
mdf-moves a M.end_checkpoints v = refl
mdf-moves a M.speed_limits v = refl
mdf-moves a M.num_speed_limits v = refl
mdf-moves a M.end_speed_limits v = refl
mdf-moves a M.end_file_of v = refl
mdf-moves a M.goal v = refl
mdf-moves a M.limit v = refl

mdf-few : (k : M.Kind) (v : M.Says Field k) → length (the_mdf_line_of k v) ≤ 3
unfolding the_mdf_line_of
mdf-few M.MDF_name_of v = omega arith
mdf-few M.RNDF v = omega arith
mdf-few M.format_version_of v = omega arith
mdf-few M.creation_date_of v = omega arith
mdf-few M.checkpoints v = omega arith
mdf-few M.num_checkpoints v = omega arith
mdf-few M.end_checkpoints v = omega arith
mdf-few M.speed_limits v = omega arith
mdf-few M.num_speed_limits v = omega arith
mdf-few M.end_speed_limits v = omega arith
mdf-few M.end_file_of v = omega arith
mdf-few M.goal v = omega arith
mdf-few M.limit v = omega arith

pub mdf_movable : Movable the_mdf_line_of
mdf_movable = record { move = λ a k v. orders_named (second a (the_mdf_line_of k v)) k v; moves = mdf-moves; few = mdf-few }

-- its names' bytes stay
mdf-kept : (a : ℕ) (k : M.Kind) (v : M.Says Field k) → orders_named bytes_of k (orders_named (second a (the_mdf_line_of k v)) k v) ≡ orders_named bytes_of k v
mdf-kept a M.MDF_name_of v = refl
mdf-kept a M.RNDF v = refl
mdf-kept a M.format_version_of v = refl
mdf-kept a M.creation_date_of v = refl
mdf-kept a M.checkpoints v = refl
mdf-kept a M.num_checkpoints v = refl
mdf-kept a M.end_checkpoints v = refl
mdf-kept a M.speed_limits v = refl
mdf-kept a M.num_speed_limits v = refl
mdf-kept a M.end_speed_limits v = refl
mdf-kept a M.end_file_of v = refl
mdf-kept a M.goal v = refl
mdf-kept a M.limit v = refl

pub mdf-relocated : (a : ℕ) (said : List (M.Statement Field)) → map (order_named bytes_of) (relocated the_mdf_line_of mdf_movable a said) ≡ map (order_named bytes_of) said
unfolding relocated mdf_movable
mdf-relocated a [] = refl
mdf-relocated a (s ∷ said) = ap₂ (λ (v : M.Says Name s.kind) (l : List (M.Statement Name)). M.say s.kind v ∷ l) (mdf-kept a s.kind s.val) (mdf-relocated (a + suc (length (house_line (the_mdf_line_of s.kind s.val)))) said)

-- what is written are its names' bytes
mdf-line-kept : (k : M.Kind) (v : M.Says Field k) → house_line (the_mdf_line_of k (orders_named back k (orders_named bytes_of k v))) ≡ house_line (the_mdf_line_of k v)
unfolding the_mdf_line_of house_field
mdf-line-kept M.MDF_name_of v = refl
mdf-line-kept M.RNDF v = refl
mdf-line-kept M.format_version_of v = refl
mdf-line-kept M.creation_date_of v = refl
mdf-line-kept M.checkpoints v = refl
mdf-line-kept M.num_checkpoints v = refl
mdf-line-kept M.end_checkpoints v = refl
mdf-line-kept M.speed_limits v = refl
mdf-line-kept M.num_speed_limits v = refl
mdf-line-kept M.end_speed_limits v = refl
mdf-line-kept M.end_file_of v = refl
mdf-line-kept M.goal v = refl
mdf-line-kept M.limit v = refl

mdf-by-bytes : (said : List (M.Statement Field)) → house_text_of the_mdf_line_of (map (order_named back) (map (order_named bytes_of) said)) ≡ house_text_of the_mdf_line_of said
unfolding house_text_of
mdf-by-bytes [] = refl
mdf-by-bytes (s ∷ said) = ap₂ (λ (l t : Bytes). (l ++ ascii "\n") ++ t) (mdf-line-kept s.kind s.val) (mdf-by-bytes said)

-- so statements that differ in the places of names only have one house writing
pub mdf-one-text : (said said' : List (M.Statement Field)) → map (order_named bytes_of) said ≡ map (order_named bytes_of) said' → house_text_of the_mdf_line_of said ≡ house_text_of the_mdf_line_of said'
mdf-one-text said said' e = sym (mdf-by-bytes said) ∙ ap (λ (l : List (M.Statement Name)). house_text_of the_mdf_line_of (map (order_named back) l)) e ∙ mdf-by-bytes said'
