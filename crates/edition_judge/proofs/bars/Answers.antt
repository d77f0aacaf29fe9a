-- `edition_judge::bars` meets its contract. Assumes nothing.
use mathlib.Core.Path.{sym, ap, ◌∙◌}
use Rattle.place_table.specs.Verdicts.{verdict_of}
use Rattle.edition_judge.specs.EditionLine.{bars_of}
use Rattle.edition_judge.proofs.Had.{side-so, spots_so, free}
use borrow.Enum.Refused.{opened}
use Rattle.edition_judge.proofs.bars.Goals as goal

pub returns-in-LeftBoundary : goal.returns-in-LeftBoundary
unfolding bars_of verdict_of
returns-in-LeftBoundary c = rw c.in-LeftBoundary.is (c.side_bars.ensures ∙ ap verdict_of (side-so _))

pub returns-in-RightBoundary : goal.returns-in-RightBoundary
unfolding bars_of verdict_of
returns-in-RightBoundary c = rw c.in-RightBoundary.is (c.side_bars-in-RightBoundary.ensures ∙ ap verdict_of (side-so _))

pub returns-in-NumSpots : goal.returns-in-NumSpots
unfolding bars_of verdict_of
returns-in-NumSpots c = rw c.in-NumSpots.is (c.spots_bar.ensures ∙ ap verdict_of (spots_so _))

pub returns-in_default : goal.returns-in_default
unfolding verdict_of
returns-in_default c = ap verdict_of (sym (free c.args.s (opened c.in_default.in_default-own.keys4)))
