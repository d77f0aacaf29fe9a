-- The house writing of a network and of a mission, as bytes. Document 01, "House writing": "one tab between fields, LF after every line, no comment, blank line or CR; options in the order listed above, repeats in file order within their kind." Assumes nothing.
use Rattle.std.specs.Prelude.{List, ◌++◌}
use Rattle.terms.specs.Ascii.{Bytes, ascii}
use Rattle.line.specs.Content.{Field}
use Rattle.grammar.specs.Language.{Stmt}
use Rattle.grammar.specs.Network.{Network}
use Rattle.grammar.specs.Mission.{Mission}
use Rattle.grammar.specs.Tables.{gather}
use Rattle.grammar.specs.HouseOrder.{house_network, house_mission}
use Rattle.text.specs.Said.{Said}
use Rattle.text.specs.HouseLine.{house_line}
use Rattle.text.specs.RndfLines.{the_rndf_line_of}
use Rattle.text.specs.MdfLines.{the_mdf_line_of}
use Rattle.house_text.specs.House.{undated, mission_undated}

-- for a file whose statements have these fields
module _ {Kind : Type 0} {Pay : Kind → Type 0} (Line-of : (k : Kind) → Pay k → List Said) where
  -- 01: "LF after every line"
  abbrev pub ended_line : Stmt Kind Pay → Bytes
  ended_line s = house_line (Line-of s.kind s.val) ++ ascii "\n"

  -- 01: "no comment, blank line or CR": the lines of these statements, one behind the other, and nothing else
  unfoldable pub house_text_of : List (Stmt Kind Pay) → Bytes
  house_text_of said = gather ended_line said

-- ## An RNDF and an MDF: their statements in house order (grammar/specs/HouseOrder). Of a name only the bytes are written, not where it stood.
-- 01: "options in the order listed above, repeats in file order within their kind"; L12: without the creation date
unfoldable pub house_rndf : Network Field → Bytes
house_rndf n = house_text_of the_rndf_line_of (house_network (undated n))

unfoldable pub house_mdf : Mission Field → Bytes
house_mdf m = house_text_of the_mdf_line_of (house_mission (mission_undated m))
