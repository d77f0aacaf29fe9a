-- What the parts of the reader answer together. Assumes nothing.
use Rattle.mission_reader.specs.Types.{MissionReply}
use mathlib.Core.Path.{◌≡◌, ap, ap₂, ◌∙◌}
use mathlib.Core.List.{List}
use Prim.Native.Nat.{ℕ}
use lib.ListN.{length, replicate}
use Rattle.terms.specs.Ascii.{Bytes}
use Rattle.walk.specs.Walking.{Found, gathered}
use Rattle.mission_progress.specs.Progress.{none_read_of}
use Rattle.mission.specs.Storing.{MissionMemory, memory}
use Rattle.mission.specs.Reading.{filled_in}
use Rattle.mission_reader.specs.MissionReading.{Rndf, judged_of, outcome, from_filled, mission_of}

-- the reply on filled tables, which are not touched any more
pub judged-told : (b : Rndf) (mdf : Bytes) (m : MissionMemory) (r : MissionReply) → r ≡ judged_of b mdf m → outcome r m.goals m.limits ≡ from_filled b mdf (gathered m)
judged-told b mdf m r e = ap (λ (x : MissionReply). outcome x m.goals m.limits) e

-- what is found over cleared tables
pub cleared : (b : Rndf) (mdf : Bytes) (goals limits g l : List ℕ) (x : Found MissionMemory) → x ≡ filled_in mdf (memory none_read_of g l) → g ≡ replicate (length goals) 0 → l ≡ replicate (length limits) 0 → from_filled b mdf x ≡ mission_of b mdf goals limits
unfolding mission_of
cleared b mdf goals limits g l x e p q = ap (from_filled b mdf) (e ∙ ap₂ (λ (g l : List ℕ). filled_in mdf (memory none_read_of g l)) p q)
