-- WHAT A READER MUST BELIEVE. One house writing: networks, and missions, that are the same apart from their dates have equal writings. Document 01, "House writing"; document 02, L12. Assumes nothing.
use Rattle.std.specs.Prelude.{◌≡◌}
use Rattle.terms.specs.Words.{Bytes}
use Rattle.line.specs.Line.{Field}
use Rattle.law.specs.Network.{Network, Mission}
use Rattle.same.specs.Same.{SameNetwork, SameMission}
use Rattle.house_text.specs.House.{undated, mission_undated, HouseRndf, HouseMdf}

-- L12: `creation_date` "makes equal yards differ": no more. Names by their bytes, wherever they stood
abbrev pub OneRndfWriting : Type 0
OneRndfWriting = (n n' : Network Field) → SameNetwork (undated n) (undated n') → (writing writing' : Bytes) → HouseRndf n writing → HouseRndf n' writing' → writing ≡ writing'

abbrev pub OneMdfWriting : Type 0
OneMdfWriting = (m m' : Mission Field) → SameMission (mission_undated m) (mission_undated m') → (writing writing' : Bytes) → HouseMdf m writing → HouseMdf m' writing' → writing ≡ writing'
