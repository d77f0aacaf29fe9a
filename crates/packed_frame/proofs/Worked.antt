-- The passes over the form of yard A (docs/PACKED.md) and over zones, by computation: yard A's name starts at 41, its segment stands at 49 and has one lane. Assumes nothing.
use Rattle.std.specs.Prelude.{Some}
use mathlib.Core.Path.{◌≡◌, refl}
use mathlib.Core.Bool.{true}
use Rattle.packed_law.specs.Yards.{form_a}
use Rattle.terms.specs.Words.{[], ◌∷◌, Bytes}
use Rattle.scan.specs.Allowed.{all}
use Rattle.packed_rows.specs.Fixed.{record_here}
use Rattle.packed_rows.specs.Points.{four_at_of}
use Rattle.packed_frame.specs.Names.{two_at, name_size_of, named_end}
use Rattle.packed_frame.specs.Named.{walk, every}
use Rattle.packed_frame.specs.Segments.{segment_end_of, segments, segments_told}
use Rattle.packed_frame.specs.Zones.{zone_end_of, zones, zones_told}
use Rattle.packed_frame.specs.Spots.{spot-at, zone_spots, all_spots}
use Rattle.packed_frame.specs.File.{the_the_stretch_of, names_right, file_at_of}

pub yard-a-file : file_at_of form_a ≡ Some (record { segments = 1; lanes = 1; zones = 0; spots = 0; points = 2; checkpoints = 1; stops = 0; exits = 1 }, record { name = record { start = 41; length = 6 }; version = record { start = 0; length = 0 }; date = record { start = 0; length = 0 } }, 49)
unfolding file_at_of names_right the_the_stretch_of name_size_of two_at four_at_of all
yard-a-file = refl

pub yard-a-segments : segments_told (segments 1 form_a 49 0) ≡ Some (59, 1)
unfolding walk segment_end_of named_end name_size_of two_at four_at_of all
yard-a-segments = refl

-- two zones, the second with a spot, and the spot's record (those of packed_law/proofs/Worked.yard-z): eight points, the spot's from 6 on
abbrev zones-z : Bytes
zones-z = 0 ∷ 17 ∷ 0 ∷ 0 ∷ 0 ∷ 1 ∷ 0 ∷ 3 ∷ 0 ∷ 0 ∷ 0 ∷ 0 ∷ 0 ∷ 0 ∷ 0 ∷ 3 ∷ 97 ∷ 34 ∷ 98 ∷
    0 ∷ 14 ∷ 0 ∷ 0 ∷ 0 ∷ 4 ∷ 0 ∷ 2 ∷ 0 ∷ 0 ∷ 0 ∷ 0 ∷ 0 ∷ 1 ∷ 0 ∷ 0 ∷
    0 ∷ 6 ∷ 0 ∷ 0 ∷ 0 ∷ 6 ∷ 0 ∷ 9 ∷ []

pub yard-z-zones : zones_told (zones 2 zones-z 0 (1, 0)) ≡ Some (35, 8, 1)
unfolding walk zone_end_of named_end name_size_of two_at four_at_of all
yard-z-zones = refl

pub yard-z-spots : all_spots 2 zones-z 0 35 ≡ true
unfolding every zone_spots spot-at record_here named_end name_size_of two_at four_at_of all
yard-z-spots = refl
