-- `scan::eights_passed` meets its contract: a scan from i reaches where one from `from` does. Assumes nothing.
use mathlib.Core.Path.{sym, ◌∙◌}
use native.Mathlib.Omega.{arith}
use Prim.Native.Nat.{◌+◌, ◌-◌}
use lib.ListN.{length}
use Rattle.scan.proofs.Passing.{gone_over}
use Rattle.scan.proofs.eights_passed.Goals as goal

pub loop-i-preserved : goal.loop-i-preserved
loop-i-preserved g c = (
  c.loop-i.invariant.0,
  λ t a test f.
      let i = c.loop-i.i in
      gone_over t test f c.args.s.now i (i + 8) i (omega arith) (omega arith) (omega arith) (sym (c.all_pass.ensures t a) ∙ c.if-not-all_pass.false) ∙ c.loop-i.invariant.1 t a test f,
)

pub returns-then-all_pass : goal.returns-then-all_pass
returns-then-all_pass g c t a test f =
    let s = c.args.s.now in
    gone_over t test f s (length s - 8) (length s) c.loop-i.i (omega arith) (omega arith) (omega arith) (sym (c.all_pass-then-i-s.ensures t a) ∙ c.if-all_pass.true) ∙ c.loop-i.invariant.1 t a test f
