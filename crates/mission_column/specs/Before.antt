-- Executable: the place behind the lines of an MDF before the one that is wanted, and where that line starts. Assumes nothing.
use Rattle.std.specs.Prelude.{List, [], ◌∷◌, ℕ, suc, ◌+◌, length, eqb, Some, None, Option}
use Rattle.terms.specs.Ascii.{Bytes}
use Rattle.terms.specs.Words.{pick}
use Rattle.line.specs.Lines.{lines_of}
use Rattle.statement.specs.declared.Order.{Order}
use Rattle.mission_place.specs.declared.MissionPlace.{MissionPlace}
use Rattle.mission_place.specs.Step.{first_place}
use Rattle.judge.specs.Judging.{Got, bad, blank, said, line}
use Rattle.mission_judge.specs.MdfLine.{mdf_judging}
use Rattle.refusal.specs.Size.{if_too_long}

-- ## Line i of lines of which the first has the number j and starts at `start`; behind all of them where there is no such line; not behind a bad one
abbrev pub goes_on : MissionPlace → Got Order MissionPlace → (MissionPlace → Option (MissionPlace × ℕ)) → Option (MissionPlace × ℕ)
goes_on p (bad n) k = None
goes_on p blank k = k p
goes_on p (said s q) k = k q

unfoldable pub arrive_from : MissionPlace → (start j i : ℕ) → List Bytes → Option (MissionPlace × ℕ)
arrive_from p start j i [] = Some (p, start)
arrive_from p start j i (l ∷ ls) = pick (eqb j i) (Some (p, start)) (goes_on p (line mdf_judging l start p) (λ q. arrive_from q (start + suc (length l)) (suc j) i ls))

-- of a text
unfoldable pub arrived : Bytes → (i : ℕ) → Option (MissionPlace × ℕ)
arrived text i = arrive_from first_place 0 1 i (lines_of text)

-- the place there
abbrev pub standing : Option (MissionPlace × ℕ) → Option MissionPlace
standing None = None
standing (Some (p, start)) = Some p

unfoldable pub mission_place_before_of : Bytes → (i : ℕ) → Option MissionPlace
mission_place_before_of text i = if_too_long text None (standing (arrived text i))
