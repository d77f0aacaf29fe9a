-- Yard A packed, and a small yard with names, a date (which is left out), zones, spots, a stop, an exit to a perimeter and one from a perimeter, byte for byte, a record to a line; where their names lie; and bytes of which a record runs past the end. Assumes nothing.
use mathlib.Core.Path.{◌≡◌, refl}
use mathlib.Core.List.{[], ◌∷◌, zip_with}
use mathlib.Core.Option.{none, some}
use Prim.Native.Nat.{ℕ}
use native.Mathlib.Omega.{arith}
use lib.ListN.{length}
use lib.IntN.{pos, neg_ℤ}
use Rattle.terms.specs.Ascii.{Bytes, ascii}
use Rattle.line.specs.Line.{Field}
use Rattle.law.specs.Network.{Network, solid_yellow_of, broken_white_of}
use Rattle.output.specs.Packed.{big_endian}
use Rattle.packed_law.specs.Packed.{laid, all_slots, packed_form, NamesLie, LengthsRight}
use Rattle.packed_law.specs.Yards.{west, yard_a, form_a}
use Rattle.packed_law.proofs.Cut.{are-records, past_the_end}

-- wherever the name stood in the text
pub yard-a-packed : (start : ℕ) → packed_form (yard_a start) ≡ form_a
unfolding packed_form all_slots laid zip_with big_endian ascii
yard-a-packed start = refl

pub yard-a-long : length form_a ≡ 109
yard-a-long = refl

-- in the packed bytes it stands at 41
pub yard-a-placed : NamesLie 5 (all_slots (yard_a 41))
unfolding all_slots laid zip_with big_endian ascii NamesLie
yard-a-placed = (tt, (tt, (tt, (tt, (tt, (tt, (tt, (tt, (tt, (refl, (tt, (tt, (tt, (tt, (tt, (tt, (tt, (tt, (tt, (tt, (tt, (tt, (tt, (tt, (tt, (tt, (tt, (tt, (tt, (tt, (tt, (tt, (tt, tt)))))))))))))))))))))))))))))))))

-- a lane of one point and all options; zones of three, two and one perimeter points, the second with a spot and the third with another; its names stand where its packed form has them
abbrev yard-z : Network Field
yard-z = record {
  name = record { start = 41; bytes = ascii "z" };
  version = some (record { start = 44; bytes = ascii "1.0" });
  date = some (record { start = 49; bytes = ascii "today" });
  segments = record { name = some (record { start = 57; bytes = ascii "\"" }); lanes = record { width = some 12; left = some solid_yellow_of; right = some broken_white_of; checkpoints = record { waypoint = 1; number = 8 } ∷ record { waypoint = 1; number = 4 } ∷ []; stops = 1 ∷ []; exits = record { waypoint = 1; entry = record { x = 3; y = 0; z = 2 } } ∷ []; points = record { latitude = neg_ℤ (pos 500000); longitude = pos 0 } ∷ [] } ∷ [] } ∷ [];
  zones = record { name = some (record { start = 86; bytes = ascii "a\"b" }); border = record { exits = record { waypoint = 2; entry = record { x = 1; y = 1; z = 1 } } ∷ []; points = west 1 1 ∷ west 2 2 ∷ west 3 3 ∷ [] }; spots = [] }
      ∷ record { name = none; border = record { exits = []; points = west 1 1 ∷ west 2 2 ∷ [] }; spots = record { width = some 9; checkpoint = some (record { waypoint = 2; number = 9 }); first = west 5 6; second = west 7 8 } ∷ [] }
      ∷ record { name = none; border = record { exits = []; points = west 4 4 ∷ [] }; spots = record { width = none; checkpoint = some (record { waypoint = 2; number = 300 }); first = west 9 9; second = west 10 10 } ∷ [] } ∷ [];
}

abbrev form-z : Bytes
form-z = 2 ∷ 0 ∷ 0 ∷ 1 ∷ 44 ∷
    0 ∷ 40 ∷ 0 ∷ 0 ∷ 0 ∷ 1 ∷ 0 ∷ 0 ∷ 0 ∷ 1 ∷ 0 ∷ 0 ∷ 0 ∷ 3 ∷ 0 ∷ 0 ∷ 0 ∷ 2 ∷ 0 ∷ 0 ∷ 0 ∷ 11 ∷ 0 ∷ 0 ∷ 0 ∷ 4 ∷ 0 ∷ 0 ∷ 0 ∷ 1 ∷ 0 ∷ 0 ∷ 0 ∷ 2 ∷ 0 ∷ 1 ∷ 122 ∷ 0 ∷ 3 ∷ 49 ∷ 46 ∷ 48 ∷
    0 ∷ 9 ∷ 0 ∷ 0 ∷ 0 ∷ 0 ∷ 0 ∷ 1 ∷ 0 ∷ 1 ∷ 34 ∷
    0 ∷ 10 ∷ 0 ∷ 0 ∷ 0 ∷ 0 ∷ 0 ∷ 1 ∷ 0 ∷ 12 ∷ 2 ∷ 4 ∷
    0 ∷ 17 ∷ 0 ∷ 0 ∷ 0 ∷ 1 ∷ 0 ∷ 3 ∷ 0 ∷ 0 ∷ 0 ∷ 0 ∷ 0 ∷ 0 ∷ 0 ∷ 3 ∷ 97 ∷ 34 ∷ 98 ∷
    0 ∷ 14 ∷ 0 ∷ 0 ∷ 0 ∷ 4 ∷ 0 ∷ 2 ∷ 0 ∷ 0 ∷ 0 ∷ 0 ∷ 0 ∷ 1 ∷ 0 ∷ 0 ∷
    0 ∷ 14 ∷ 0 ∷ 0 ∷ 0 ∷ 8 ∷ 0 ∷ 1 ∷ 0 ∷ 0 ∷ 0 ∷ 1 ∷ 0 ∷ 1 ∷ 0 ∷ 0 ∷
    0 ∷ 6 ∷ 0 ∷ 0 ∷ 0 ∷ 6 ∷ 0 ∷ 9 ∷
    0 ∷ 6 ∷ 0 ∷ 0 ∷ 0 ∷ 9 ∷ 255 ∷ 255 ∷
    0 ∷ 8 ∷ 255 ∷ 248 ∷ 94 ∷ 224 ∷ 0 ∷ 0 ∷ 0 ∷ 0 ∷
    0 ∷ 8 ∷ 0 ∷ 0 ∷ 0 ∷ 1 ∷ 255 ∷ 255 ∷ 255 ∷ 255 ∷
    0 ∷ 8 ∷ 0 ∷ 0 ∷ 0 ∷ 2 ∷ 255 ∷ 255 ∷ 255 ∷ 254 ∷
    0 ∷ 8 ∷ 0 ∷ 0 ∷ 0 ∷ 3 ∷ 255 ∷ 255 ∷ 255 ∷ 253 ∷
    0 ∷ 8 ∷ 0 ∷ 0 ∷ 0 ∷ 1 ∷ 255 ∷ 255 ∷ 255 ∷ 255 ∷
    0 ∷ 8 ∷ 0 ∷ 0 ∷ 0 ∷ 2 ∷ 255 ∷ 255 ∷ 255 ∷ 254 ∷
    0 ∷ 8 ∷ 0 ∷ 0 ∷ 0 ∷ 5 ∷ 255 ∷ 255 ∷ 255 ∷ 250 ∷
    0 ∷ 8 ∷ 0 ∷ 0 ∷ 0 ∷ 7 ∷ 255 ∷ 255 ∷ 255 ∷ 248 ∷
    0 ∷ 8 ∷ 0 ∷ 0 ∷ 0 ∷ 4 ∷ 255 ∷ 255 ∷ 255 ∷ 252 ∷
    0 ∷ 8 ∷ 0 ∷ 0 ∷ 0 ∷ 9 ∷ 255 ∷ 255 ∷ 255 ∷ 247 ∷
    0 ∷ 8 ∷ 0 ∷ 0 ∷ 0 ∷ 10 ∷ 255 ∷ 255 ∷ 255 ∷ 246 ∷
    0 ∷ 6 ∷ 0 ∷ 8 ∷ 0 ∷ 0 ∷ 0 ∷ 0 ∷
    0 ∷ 6 ∷ 0 ∷ 4 ∷ 0 ∷ 0 ∷ 0 ∷ 0 ∷
    0 ∷ 6 ∷ 0 ∷ 9 ∷ 0 ∷ 0 ∷ 0 ∷ 7 ∷
    0 ∷ 6 ∷ 1 ∷ 44 ∷ 0 ∷ 0 ∷ 0 ∷ 10 ∷
    0 ∷ 4 ∷ 0 ∷ 0 ∷ 0 ∷ 0 ∷
    0 ∷ 8 ∷ 0 ∷ 0 ∷ 0 ∷ 0 ∷ 0 ∷ 0 ∷ 0 ∷ 5 ∷
    0 ∷ 8 ∷ 0 ∷ 0 ∷ 0 ∷ 2 ∷ 0 ∷ 0 ∷ 0 ∷ 0 ∷ []

pub yard-z-packed : packed_form yard-z ≡ form-z
unfolding packed_form all_slots laid zip_with big_endian ascii
yard-z-packed = refl

-- its four names stand at 41, 44, 57 and 86; its date stands nowhere
pub yard-z-placed : NamesLie 5 (all_slots yard-z)
unfolding all_slots laid zip_with big_endian ascii NamesLie
yard-z-placed = (tt, (tt, (tt, (tt, (tt, (tt, (tt, (tt, (tt, (refl, (refl, (tt, (tt, (tt, (refl, (tt, (tt, (tt, (tt, (tt, (tt, (tt, (tt, (tt, (tt, (tt, (refl, (tt, (tt, (tt, (tt, (tt, (tt, (tt, (tt, (tt, (tt, (tt, (tt, (tt, (tt, (tt, (tt, (tt, (tt, (tt, (tt, (tt, (tt, (tt, (tt, (tt, (tt, (tt, (tt, (tt, (tt, (tt, (tt, (tt, (tt, (tt, (tt, (tt, (tt, (tt, (tt, (tt, (tt, (tt, (tt, (tt, (tt, (tt, (tt, (tt, (tt, (tt, (tt, (tt, (tt, (tt, (tt, (tt, (tt, (tt, (tt, (tt, (tt, (tt, (tt, (tt, (tt, (tt, (tt, (tt, (tt, (tt, tt))))))))))))))))))))))))))))))))))))))))))))))))))))))))))))))))))))))))))))))))))))))))))))))))))

-- 28: three bytes, of which the first two say that a record of two bytes follows
pub cut_record : LengthsRight (2 ∷ 0 ∷ 0 ∷ 0 ∷ 3 ∷ 0 ∷ 2 ∷ 0 ∷ []) → ⊥
unfolding big_endian
cut_record x = past_the_end 2 (0 ∷ []) (0 ∷ 2 ∷ 0 ∷ []) (omega arith) (omega arith) refl (are-records 2 3 (0 ∷ 2 ∷ 0 ∷ []) x)
