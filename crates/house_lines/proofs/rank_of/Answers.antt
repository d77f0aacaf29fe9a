-- `house_lines::rank_of` meets its contract. Assumes nothing.
use mathlib.Core.Path.{sym, ◌∙◌}
use Rattle.terms.specs.Ascii.{ascii}
use Rattle.house_lines.specs.Said.{rank_by_same}
use Rattle.house_lines.proofs.Ranks.{rank_same}
use Rattle.house_lines.proofs.rank_of.Goals as goal

pub returns-then-same : goal.returns-then-same
unfolding rank_by_same ascii
returns-then-same c = rw (← (rank_same c.args.word.now), sym c.same.ensures ∙ c.if-same.true)

pub returns-then-same-2 : goal.returns-then-same-2
unfolding rank_by_same ascii
returns-then-same-2 c = rw (← (rank_same c.args.word.now), sym c.same.ensures ∙ c.if-same.false, sym c.same-2.ensures ∙ c.if-same-2.true)

pub returns-then-same-3 : goal.returns-then-same-3
unfolding rank_by_same ascii
returns-then-same-3 c = rw (← (rank_same c.args.word.now), sym c.same.ensures ∙ c.if-same.false, sym c.same-2.ensures ∙ c.if-same-2.false, sym c.same-3.ensures ∙ c.if-same-3.true)

pub returns-then-same-4 : goal.returns-then-same-4
unfolding rank_by_same ascii
returns-then-same-4 c = rw (← (rank_same c.args.word.now), sym c.same.ensures ∙ c.if-same.false, sym c.same-2.ensures ∙ c.if-same-2.false, sym c.same-3.ensures ∙ c.if-same-3.false, sym c.same-4.ensures ∙ c.if-same-4.true)

pub returns-then-same-5 : goal.returns-then-same-5
unfolding rank_by_same ascii
returns-then-same-5 c = rw (← (rank_same c.args.word.now), sym c.same.ensures ∙ c.if-same.false, sym c.same-2.ensures ∙ c.if-same-2.false, sym c.same-3.ensures ∙ c.if-same-3.false, sym c.same-4.ensures ∙ c.if-same-4.false, sym c.same-5.ensures ∙ c.if-same-5.true)

pub returns-then-same-6 : goal.returns-then-same-6
unfolding rank_by_same ascii
returns-then-same-6 c = rw (← (rank_same c.args.word.now), sym c.same.ensures ∙ c.if-same.false, sym c.same-2.ensures ∙ c.if-same-2.false, sym c.same-3.ensures ∙ c.if-same-3.false, sym c.same-4.ensures ∙ c.if-same-4.false, sym c.same-5.ensures ∙ c.if-same-5.false, sym c.same-6.ensures ∙ c.if-same-6.true)

pub returns-then-is_first : goal.returns-then-is_first
unfolding rank_by_same ascii
returns-then-is_first c = rw (← (rank_same c.args.word.now), sym c.same.ensures ∙ c.if-same.false, sym c.same-2.ensures ∙ c.if-same-2.false, sym c.same-3.ensures ∙ c.if-same-3.false, sym c.same-4.ensures ∙ c.if-same-4.false, sym c.same-5.ensures ∙ c.if-same-5.false, sym c.same-6.ensures ∙ c.if-same-6.false, sym c.is_first.ensures ∙ c.if-is_first.true)

pub returns-else-is_first : goal.returns-else-is_first
unfolding rank_by_same ascii
returns-else-is_first c = rw (← (rank_same c.args.word.now), sym c.same.ensures ∙ c.if-same.false, sym c.same-2.ensures ∙ c.if-same-2.false, sym c.same-3.ensures ∙ c.if-same-3.false, sym c.same-4.ensures ∙ c.if-same-4.false, sym c.same-5.ensures ∙ c.if-same-5.false, sym c.same-6.ensures ∙ c.if-same-6.false, sym c.is_first.ensures ∙ c.if-is_first.false)
