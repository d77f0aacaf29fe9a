-- Worked examples: what is told at places of yard A and others, by computation. Assumes nothing.
use mathlib.Core.Path.{◌≡◌, refl}
use mathlib.Core.List.{List, [], ◌∷◌}
use mathlib.Core.Bool.{true, false}
use Prim.Native.String.{String}
use Rattle.terms.specs.Words.{ascii}
use Rattle.number.specs.Decimal.{decimal, spell}
use Rattle.law.specs.Network as Law
use Rattle.grammar.specs.Editions.{march, december}
use Rattle.grammar.specs.Network.{under}
use Rattle.grammar.specs.Machine.{over, inside}
use Rattle.grammar.specs.Places.{first_lane_due, first_waypoint_due, waypoint_due, first_of_spot_due, part_due}
use Rattle.grammar.specs.MissionPlaces as M-at
use Rattle.expected_law.specs.Expected.{Expectation, ceiling, degrees, one_of, lines, fields, field, entries, the_name, goals, ids, missing}
use Rattle.expected_law.specs.Items.{keyed, own, an_entry, counted}
use Rattle.expected_exact.specs.Listed.{listed, rndf_listed, mdf_listed}
use Rattle.expected_law.specs.Telling.{told, joined, some_of, all_due, shape, form_words, ranges_words, item_words, points_words, owed_words}

-- each with its words
abbrev Told : List (Expectation × String) → Type 0
Told [] = Unit {0}
Told (x ∷ xs) = (told x.0 ≡ ascii x.1) × Told xs

pub examples : Told (
    -- 1: `end_segment` in place of yard A's lane
    (lines 0 (rndf_listed (under march true) (inside (first_lane_due 1 0 0 1) (false ∷ []))), "may stand here: lane 1.1, segment_name NAME") ∷
    -- 2: yard A with 3 waypoints
    (lines 1 (rndf_listed (under march true) (inside (waypoint_due 1 0 0 1 0 3 1) [])), "may stand here: 1.1.3 LATITUDE LONGITUDE (1 such line is still owed)") ∷
    -- 3: yard A, a misspelt option
    (lines 0 (rndf_listed (under march true) (inside (first_waypoint_due 1 0 0 1 0 2) (false ∷ false ∷ false ∷ false ∷ false ∷ false ∷ []))), "may stand here: 1.1.1 LATITUDE LONGITUDE, lane_width NUMBER, left_boundary BOUNDARY, right_boundary BOUNDARY, checkpoint POINT NUMBER, stop POINT, exit POINT ENTRY") ∷
    -- 4: a spot without its checkpoint (25)
    (lines 0 (rndf_listed (under march true) (inside (first_of_spot_due 2 0 1 0) (false ∷ false ∷ []))), "may stand here: spot_width NUMBER, checkpoint 2.1.2 NUMBER") ∷
    -- 5: without `end_file` (10)
    (lines 0 (rndf_listed (under march true) (inside (part_due 2 0 0) [])), "may stand here: end_file") ∷
    -- 6: behind `end_file`
    (lines 0 (rndf_listed (under march true) over), "may stand here: nothing but blank lines and comments, for the file has ended") ∷
    -- 7: an exit without its entry (7)
    (fields (keyed "exit" (own 1 1 1 2 ∷ an_entry 0 ∷ [])), "may stand here: exit POINT ENTRY (3 fields)") ∷
    -- 8: a point of another lane (9)
    (field (ascii "exit") (own 1 1 1 2), "may stand here: 1.1.1 to 1.1.2") ∷
    -- 9: 0 lanes (9)
    (field (ascii "num_lanes") counted, "may stand here: a number from 1 to 32768") ∷
    -- 10: an entry of two numbers (8)
    (field (ascii "1.1.2") (an_entry 0), "may stand here: X.Y.Z with X from 1 to 32768, Y from 0 to 32768, Z from 1 to 32768") ∷
    -- 11: five decimals (8)
    (field (ascii "1.1.1") (degrees 90000000), "may stand here: a latitude from -90.000000 to 90.000000, six digits behind the point") ∷
    -- 12: December 2006 (8)
    (field (ascii "right_boundary") (one_of (Law.boundaries december)), "may stand here: double_yellow, solid_white, broken_white") ∷
    -- 13: limit 10 to 5 (9)
    (field (ascii "10") ceiling, "may stand here: 0, or a number from 10 to 32768") ∷
    -- 14: a goal too few (5)
    (lines 3 (mdf_listed (inside (M-at.goal_due 3) [])), "may stand here: NUMBER (3 such lines are still owed)") ∷
    -- 15: a limit too few (5)
    (lines 1 (mdf_listed (inside (M-at.limit_due 1) [])), "may stand here: ID MINIMUM MAXIMUM (1 such line is still owed)") ∷
    -- 16: entry 1.1.3 (12)
    (entries (record { x = 1; y = 1; z = 2 } ∷ record { x = 2; y = 0; z = 1 } ∷ []), "may stand here: 1.1.1 to 1.1.2, 2.0.1") ∷
    -- 17: `yard_b` in the MDF (14)
    (the_name (ascii "yard_a"), "may stand here: yard_a") ∷
    -- 18: goal 9 (15)
    (goals (7 ∷ 8 ∷ 1 ∷ 2 ∷ 3 ∷ 4 ∷ 5 ∷ 6 ∷ []), "may stand here: a checkpoint of the RNDF: 7, 8, 1, 2, 3, 4 and 2 more") ∷
    -- 19: limit 3 twice (17)
    (ids (4 ∷ []), "may stand here: an id that has no limit yet: 4") ∷
    -- 20: limits 3 and 4 left out (18)
    (missing (3 ∷ 4 ∷ []), "without a limit: 3, 4") ∷ [])
unfolding ascii told joined some_of listed form_words shape all_due ranges_words item_words points_words owed_words decimal spell
examples = (refl, (refl, (refl, (refl, (refl, (refl, (refl, (refl, (refl, (refl, (refl, (refl, (refl, (refl, (refl, (refl, (refl, (refl, (refl, (refl, tt))))))))))))))))))))
