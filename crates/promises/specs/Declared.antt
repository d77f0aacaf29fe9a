-- WHAT A READER MUST BELIEVE. How many rows the lines of a text declare. Document 01, "Tables". Assumes nothing.
use Rattle.std.specs.Prelude.{◌∷◌, ◌+◌, ◌*◌}
use Rattle.terms.specs.Words.{List, [], Bool, false, ℕ, String, length, ascii, pick}
use Rattle.scan.specs.Reach.{same_bytes_of}
use Rattle.law.specs.Network.{Said, Line, word, name, numbers, coordinate, boundary}
use Rattle.law.specs.Tables.{gather, total}
use Rattle.counts.specs.declared.Counts.{Counts}
use Rattle.counts.specs.declared.MissionCounts.{MissionCounts}

-- the line's keyword is this word
abbrev pub begins_with : String → Line → Bool
begins_with w [] = false
begins_with w (word v ∷ l) = same_bytes_of v (ascii w)
begins_with w (name f ∷ l) = false
begins_with w (numbers i ∷ l) = false
begins_with w (coordinate z ∷ l) = false
begins_with w (boundary b ∷ l) = false

-- the lines with this keyword
abbrev pub lines_with : String → List Line → List Line
lines_with w = gather (λ l. pick (begins_with w l) (l ∷ []) [])

abbrev pub numbers_in : Said → List ℕ
numbers_in (word w) = []
numbers_in (name f) = []
numbers_in (numbers l) = l
numbers_in (coordinate z) = []
numbers_in (boundary b) = []

-- what the count lines with this keyword declare together
abbrev pub together : String → List Line → ℕ
together w said = total (λ n. n) (gather (λ l. gather numbers_in l) (lines_with w said))

abbrev pub how_many : String → List Line → ℕ
how_many w said = length (lines_with w said)

-- 01: "The rows of each table are as many as its count lines declare together (for points: waypoints, perimeter points and two for each spot); checkpoints, stops and exits have a row for each of their lines."
abbrev pub declared : List Line → Counts
declared said = record {
  segments = together "num_segments" said;
  lanes = together "num_lanes" said;
  zones = together "num_zones" said;
  spots = together "num_spots" said;
  points = together "num_waypoints" said + together "num_perimeterpoints" said + 2 * together "num_spots" said;
  checkpoints = how_many "checkpoint" said;
  stops = how_many "stop" said;
  exits = how_many "exit" said;
}

abbrev pub mission_declared : List Line → MissionCounts
mission_declared said = record { goals = together "num_checkpoints" said; limits = together "num_speed_limits" said }
