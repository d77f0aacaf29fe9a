-- A line of a text, where it stands; and what comes of a statement alone. Assumes nothing.
use Rattle.std.specs.Prelude.{◌≡◌, List, ℕ, ◌≤◌, eqb}
use Rattle.terms.specs.Ascii.{Bytes}
use Rattle.terms.specs.Words.{pick}
use Rattle.scan.specs.Reach.{reach, stops_by}
use Rattle.scan.specs.declared.Until.TheVariants.{Byte}
use Rattle.line.specs.Text.{lf, Ended}
use Rattle.line.specs.Content.{Field, SpellsFields, Content}
use Rattle.judge.specs.Judging.{Got, bad, Judging, taken}
use Rattle.plain_parts.specs.Stands.{stretch, Ends}

-- these fields stand from a place of the text on, up to what may end a line
pub record Rest (s : Bytes) (from stop : ℕ) (fields : List Field) : Type 0 where
  pub at : ℕ
  pub order : from ≤ at
  pub fielded : SpellsFields from (stretch s from at) fields
  pub ends : Ends s at stop

-- the line that starts at a place of the text ends at another, and has these fields
pub record LineStands (s : Bytes) (from stop : ℕ) (fields : List Field) : Type 0 where
  pub content : Bytes
  pub ended : Ended (stretch s from stop) content
  pub fielded : Content from content fields
  pub ends : stop ≡ reach (stops_by (Byte lf)) s from

-- what a statement of a kind gets at a place: 5 or 6 by the kind alone, then 9 and 25, or the next place: 2, 3, 4, 7 and 8 cannot come
unfoldable pub stated : (J : Judging) → ℕ → J.St → J.Pl → Got J.St J.Pl
stated J k st p = pick (eqb (J.refuses p (J.cell p k)) 0) (taken J st (J.steps p (J.cell p k) st)) (bad (J.refuses p (J.cell p k)))
