-- A network, or a mission, whose names are names: what can stand in a field. Document 01, "Lines, comments, fields". Assumes nothing.
use Rattle.std.specs.Prelude.{length}
use Rattle.terms.specs.Words.{Each, perhaps}
use Rattle.line.specs.Content.{Field, IsField}
use Rattle.number.specs.Spelling.{NameLength}
use Rattle.grammar.specs.Network.{Network}
use Rattle.grammar.specs.Mission.{Mission}

-- 01: "Name: 1 to 128 bytes", each of which may stand in a field
pub record IsName (f : Field) : Type 0 where
  pub is_field : IsField f.bytes
  pub long : NameLength (length f.bytes)

-- every name that there is
pub record NetworkNames (n : Network Field) : Type 0 where
  pub name : IsName n.name
  pub version : Each IsName (perhaps n.version)
  pub date : Each IsName (perhaps n.date)
  pub segments : Each (λ s. Each IsName (perhaps s.name)) n.segments
  pub zones : Each (λ z. Each IsName (perhaps z.name)) n.zones

pub record MissionNames (m : Mission Field) : Type 0 where
  pub name : IsName m.name
  pub rndf : IsName m.rndf
  pub version : Each IsName (perhaps m.version)
  pub date : Each IsName (perhaps m.date)
