-- `map_json::put_escaped` meets its contract. Assumes nothing.
use borrow.Author.Tests.{eq-eqb, ne_eqb}
use Rattle.terms.specs.Ascii.{ascii}
use Rattle.map_json.specs.Json.{escaped}
use Rattle.map_json.proofs.put_escaped.Goals as goal

pub returns-then-b-eq34 : goal.returns-then-b-eq34
unfolding ascii escaped
returns-then-b-eq34 c = rw (eq-eqb _ _ c.if-b-eq34.true) c.put_bytes.ensures

pub returns : goal.returns
unfolding escaped
returns c = rw (ne_eqb _ _ c.if-b-eq34.false) c.put_byte.ensures
