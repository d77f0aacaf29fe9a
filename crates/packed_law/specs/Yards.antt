-- WHAT A READER MUST BELIEVE. Yard A and its packed form, byte for byte, a record to a line (docs/PACKED.md has it in hexadecimal). Document 02, L11 and L12. Assumes nothing.
use Rattle.std.specs.Prelude.{◌∷◌}
use Rattle.terms.specs.Words.{[], none, ℕ, pos, neg_ℤ, Bytes, ascii}
use Rattle.line.specs.Line.{Field}
use Rattle.law.specs.Network.{Position, Network}

abbrev pub west : (latitude longitude : ℕ) → Position
west latitude longitude = record { latitude = pos latitude; longitude = neg_ℤ (pos longitude) }

-- yard A (promises/specs/Yards.network), its name at this place
abbrev pub yard_a : ℕ → Network Field
yard_a start = record {
  name = record { start = start; bytes = ascii "yard_a" };
  version = none;
  date = none;
  segments = record { name = none; lanes = record { width = none; left = none; right = none; checkpoints = record { waypoint = 2; number = 7 } ∷ []; stops = []; exits = record { waypoint = 2; entry = record { x = 1; y = 1; z = 1 } } ∷ []; points = west 45000000 93000000 ∷ west 45000100 93000000 ∷ [] } ∷ [] } ∷ [];
  zones = [];
}

abbrev pub form_a : Bytes
form_a = 2 ∷ 0 ∷ 0 ∷ 0 ∷ 104 ∷
    0 ∷ 42 ∷ 0 ∷ 0 ∷ 0 ∷ 1 ∷ 0 ∷ 0 ∷ 0 ∷ 1 ∷ 0 ∷ 0 ∷ 0 ∷ 0 ∷ 0 ∷ 0 ∷ 0 ∷ 0 ∷ 0 ∷ 0 ∷ 0 ∷ 2 ∷ 0 ∷ 0 ∷ 0 ∷ 1 ∷ 0 ∷ 0 ∷ 0 ∷ 0 ∷ 0 ∷ 0 ∷ 0 ∷ 1 ∷ 0 ∷ 6 ∷ 121 ∷ 97 ∷ 114 ∷ 100 ∷ 95 ∷ 97 ∷ 0 ∷ 0 ∷
    0 ∷ 8 ∷ 0 ∷ 0 ∷ 0 ∷ 0 ∷ 0 ∷ 1 ∷ 0 ∷ 0 ∷
    0 ∷ 10 ∷ 0 ∷ 0 ∷ 0 ∷ 0 ∷ 0 ∷ 2 ∷ 255 ∷ 255 ∷ 0 ∷ 0 ∷
    0 ∷ 8 ∷ 2 ∷ 174 ∷ 165 ∷ 64 ∷ 250 ∷ 116 ∷ 238 ∷ 192 ∷
    0 ∷ 8 ∷ 2 ∷ 174 ∷ 165 ∷ 164 ∷ 250 ∷ 116 ∷ 238 ∷ 192 ∷
    0 ∷ 6 ∷ 0 ∷ 7 ∷ 0 ∷ 0 ∷ 0 ∷ 1 ∷
    0 ∷ 8 ∷ 0 ∷ 0 ∷ 0 ∷ 1 ∷ 0 ∷ 0 ∷ 0 ∷ 0 ∷ []
