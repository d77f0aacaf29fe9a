-- WHAT A READER MUST BELIEVE. The bytes of a name. Assumes nothing.
use Rattle.std.specs.Prelude.{◌+◌}
use Rattle.terms.specs.Words.{[], length, take, drop, leb, pick, Bytes}
use Rattle.rows.specs.declared.Stretch.{Stretch}

-- 01: "Asking for a name returns that stretch of the caller's own text, or an empty part where start and length don't fit in it."
unfoldable pub name_of : Bytes → Stretch → Bytes
name_of text name = pick (leb (name.start + name.length) (length text)) (take name.length (drop name.start text)) []
