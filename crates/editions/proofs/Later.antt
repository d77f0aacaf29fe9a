-- What is spelled in an edition is spelled in the present one. Assumes nothing.
use mathlib.Core.Path.{◌≡◌, refl}
use mathlib.Core.List.{List, [], ◌∷◌}
use mathlib.Core.Option.{none, some}
use mathlib.Core.Bool.{Bool, true}
use Prim.Native.Nat.{ℕ, ◌≤◌}
use Rattle.terms.specs.Ascii.{Bytes}
use Rattle.terms.specs.Words.{InTurn, nothing, then}
use Rattle.line.specs.Content.{Field}
use Rattle.grammar.specs.Editions.{Edition, march, december, Enough}
use Rattle.grammar.specs.Network.{largest, Spot, Zone, Network, under, SpellsSpotBy, SpellsZoneBy, SpellsNetworkBy}
use Rattle.grammar.specs.Statements.{Kind, Says, Statement, RNDF_name_of, num_segments, num_zones, format_version_of, creation_date_of, segment, num_lanes, segment_name_of, end_segment, lane, num_waypoints, lane_width_of, left_boundary_of, right_boundary_of, checkpoint, stop, exit, end_lane_of, zone, num_spots, zone_name_of, end_zone, perimeter, num_perimeterpoints, end_perimeter, spot, spot_width_of, end_spot, end_file_of, point}
use Rattle.text.specs.Said.{SpellFields}
use Rattle.text.specs.RndfLines.{rndf_line_in_of, the_rndf_line_of}
use Rattle.text.specs.Spelling.{SpellsLine, says, blank, SpellsLines, done, blank_line_of, statement, SpellsRndfIn, SpellsRndf}

-- ## Networks
in_turn : {A T : Type 0} {P Q : ℕ → A → List T → Type 0} → ((i : ℕ) (a : A) (l : List T) → P i a l → Q i a l) → {i : ℕ} {parts : List A} {l : List T} → InTurn P i parts l → InTurn Q i parts l
in_turn h nothing = nothing
in_turn h (then p r) = then (h _ _ _ p) (in_turn h r)

not_more : (e : Edition) (n : ℕ) → Enough e n → n ≤ largest
not_more march n h = h
not_more december n h = h.high

module _ {N : Type 0} (e : Edition) (strict : Bool) where
  spot-later : (m i : ℕ) (a : Spot) (l : List (Statement N)) → SpellsSpotBy (under e strict) m i a l → SpellsSpotBy (under march strict) m i a l
  spot-later m i a l h = record { options = h.options; given = h.given; good = h.good; marked = h.marked; spelled = h.spelled }

  zone-later : (m : ℕ) (a : Zone N) (l : List (Statement N)) → SpellsZoneBy (under e strict) m a l → SpellsZoneBy (under march strict) m a l
  zone-later m a l h = record { options = h.options; border = h.border; spots = h.spots; given = h.given; count = not_more e _ h.count; bordered = h.bordered; each = in_turn (spot-later m) h.each; spelled = h.spelled }

  pub network-later : (n : Network N) (l : List (Statement N)) → SpellsNetworkBy (under e strict) n l → SpellsNetworkBy (under march strict) n l
  network-later n l h = record {
    options = h.options;
    segments = h.segments;
    zones = h.zones;
    given = h.given;
    some-segment = h.some-segment;
    count = h.count;
    each_segment = h.each_segment;
    each_zone = in_turn zone-later h.each_zone;
    spelled = h.spelled;
  }

-- ## Lines
fields-later : (e : Edition) (k : Kind) (v : Says Field k) (fs : List Field) → SpellFields fs (rndf_line_in_of e k v) → SpellFields fs (the_rndf_line_of k v)
unfolding rndf_line_in_of
fields-later e RNDF_name_of v fs h = h
fields-later e num_segments v fs h = h
fields-later e num_zones v fs h = h
fields-later e format_version_of v fs h = h
fields-later e creation_date_of v fs h = h
fields-later e segment v fs h = h
fields-later e num_lanes v fs h = h
fields-later e segment_name_of v fs h = h
fields-later e end_segment v fs h = h
fields-later e lane v fs h = h
fields-later e num_waypoints v fs h = h
fields-later e lane_width_of v fs h = h
fields-later e left_boundary_of v [] h = absurd h
fields-later e left_boundary_of v (f ∷ []) h = absurd h.1
fields-later e left_boundary_of v (f ∷ g ∷ []) h = (h.0, ((h.1.0.0, refl), tt))
fields-later e left_boundary_of v (f ∷ g ∷ r ∷ fs) h = absurd h.1.1
fields-later e right_boundary_of v [] h = absurd h
fields-later e right_boundary_of v (f ∷ []) h = absurd h.1
fields-later e right_boundary_of v (f ∷ g ∷ []) h = (h.0, ((h.1.0.0, refl), tt))
fields-later e right_boundary_of v (f ∷ g ∷ r ∷ fs) h = absurd h.1.1
fields-later e checkpoint v fs h = h
fields-later e stop v fs h = h
fields-later e exit v fs h = h
fields-later e end_lane_of v fs h = h
fields-later e zone v fs h = h
fields-later e num_spots v fs h = h
fields-later e zone_name_of v fs h = h
fields-later e end_zone v fs h = h
fields-later e perimeter v fs h = h
fields-later e num_perimeterpoints v fs h = h
fields-later e end_perimeter v fs h = h
fields-later e spot v fs h = h
fields-later e spot_width_of v fs h = h
fields-later e end_spot v fs h = h
fields-later e end_file_of v fs h = h
fields-later e point v fs h = h

blank-later : (e : Edition) {a : ℕ} {line : Bytes} → SpellsLine (rndf_line_in_of e) a line none → SpellsLine the_rndf_line_of a line none
blank-later e (blank c f) = blank c f

pub line-later : (e : Edition) {a : ℕ} {line : Bytes} {s : Statement Field} → SpellsLine (rndf_line_in_of e) a line (some s) → SpellsLine the_rndf_line_of a line (some s)
line-later e {s = s} (says {fields = fs} c f h) = says c f (fields-later e s.kind s.val fs h)

pub lines-later : (e : Edition) {a : ℕ} {ls : List Bytes} {ss : List (Statement Field)} → SpellsLines (rndf_line_in_of e) a ls ss → SpellsLines the_rndf_line_of a ls ss
lines-later e done = done
lines-later e (blank_line_of h r) = blank_line_of (blank-later e h) (lines-later e r)
lines-later e (statement h r) = statement (line-later e h) (lines-later e r)

-- ## Texts
pub later : (e : Edition) (n : Network Field) (text : Bytes) → SpellsRndfIn e n text → SpellsRndf n text
later e n text h = record { lines = h.lines; said = h.said; made = h.made; each = lines-later e h.each; net = network-later e true n h.said h.net }
