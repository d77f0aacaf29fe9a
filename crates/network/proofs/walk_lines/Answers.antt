-- `network::walk_lines` meets its contract: it walks from the first place on, with nothing gained. Assumes nothing.
use mathlib.Core.Path.{sym, ◌∙◌}
use native.Mathlib.Omega.{arith}
use Rattle.refusal.proofs.Sized.{too_long, not_too-long}
use Rattle.network.specs.Reaching.{reached_in}
use Rattle.network.proofs.walk_lines.Goals as goal

pub returns-then-text-gt-LONGEST_TEXT : goal.returns-then-text-gt-LONGEST_TEXT
unfolding reached_in
returns-then-text-gt-LONGEST_TEXT c = λ right. sym (too_long c.args.text.now _ _ c.if-text-gt-LONGEST_TEXT.true)

pub returns : goal.returns
unfolding reached_in
returns c =
    let size = c.if-text-gt-LONGEST_TEXT.false in
    λ right. c.walk_part.ensures right size (rw c.none.ensures (omega arith)) (omega arith) ∙ rw (c.none.ensures, c.start.ensures) (sym (not_too-long c.args.text.now _ _ size))
