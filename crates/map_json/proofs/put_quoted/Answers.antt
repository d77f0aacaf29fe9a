-- `map_json::put_quoted` meets its contract: what is left to be put are the bytes that are left, escaped. Assumes nothing.
use mathlib.Core.Path.{refl, sym, ◌∙◌}
use native.Mathlib.Omega.{arith}
use Rattle.terms.specs.Ascii.{ascii}
use Rattle.output.proofs.Writing.{◌then◌}
use Rattle.map_json.specs.Json.{quoted}
use Rattle.map_json.proofs.Loops.{escapes-again, escapes-done}
use Rattle.map_json.proofs.put_quoted.Goals as goal

pub loop-b-init : goal.loop-b-init
loop-b-init c = (refl, refl)

pub loop-b-preserved : goal.loop-b-preserved
loop-b-preserved c =
    let l = c.loop-b in
    (c.put_escaped-to.auto.out ∙ l.invariant.0, escapes-again _ _ c.args.s.now l.b-index (omega arith) c.put_escaped-to.ensures ∙ l.invariant.1)

pub shape_of-out : goal.shape_of-out
shape_of-out c = c.put_byte.auto.out ∙ c.loop-b.invariant.0 ∙ c.put_byte-to.auto.out

pub returns : goal.returns
unfolding ascii quoted
returns c =
    let l = c.loop-b in
    let s = c.args.s.now in
    c.put_byte-to.ensures then record { is = sym l.invariant.1 ∙ escapes-done _ s l.b-index (omega arith) } then c.put_byte.ensures
