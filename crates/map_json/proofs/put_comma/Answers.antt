-- `map_json::put_comma` meets its contract. Assumes nothing.
use Rattle.terms.specs.Ascii.{ascii}
use Rattle.output.proofs.Writing.{none, same}
use Rattle.map_json.proofs.Loops.{no_comma, some_comma}
use Rattle.map_json.proofs.put_comma.Goals as goal

pub returns-then-k-eq0 : goal.returns-then-k-eq0
returns-then-k-eq0 c = same (no_comma _ c.if-k-eq0.true) none

pub returns : goal.returns
unfolding ascii
returns c = same (some_comma _ c.if-k-eq0.false) c.put_byte.ensures
