-- `word::is_word` meets its contract. Assumes nothing.
use mathlib.Core.Path.{sym, ◌∙◌}
use lib.ListN.{length, take, drop}
use borrow.Author.Tests.{eq-eqb, ne_eqb}
use Rattle.word.specs.Packed.{packed}
use Rattle.word.specs.Table.{same_known_of}
use Rattle.word.proofs.is_word.Goals as goal

pub returns-then-letters-w-2 : goal.returns-then-letters-w-2
unfolding same_known_of
returns-then-letters-w-2 c =
    let s = c.args.s.now in
    let w = c.args.w in
    rw (c.letters-then-letters-w-2.ensures, eq-eqb (length s) w.size c.if-s-w.true, eq-eqb (packed (take 8 s)) w.first (sym c.letters.ensures ∙ c.if-letters-w.true), eq-eqb (packed (take 8 (drop 8 s))) w.second (sym c.letters-then-letters-w.ensures ∙ c.if-letters-w-2.true))

pub returns-else-letters-w-2 : goal.returns-else-letters-w-2
unfolding same_known_of
returns-else-letters-w-2 c =
    let s = c.args.s.now in
    let w = c.args.w in
    rw (eq-eqb (length s) w.size c.if-s-w.true, eq-eqb (packed (take 8 s)) w.first (sym c.letters.ensures ∙ c.if-letters-w.true), ne_eqb (packed (take 8 (drop 8 s))) w.second (λ e. c.if-letters-w-2.false (c.letters-then-letters-w.ensures ∙ e)))

pub returns-else-letters-w : goal.returns-else-letters-w
unfolding same_known_of
returns-else-letters-w c =
    let s = c.args.s.now in
    let w = c.args.w in
    rw (eq-eqb (length s) w.size c.if-s-w.true, ne_eqb (packed (take 8 s)) w.first (λ e. c.if-letters-w.false (c.letters.ensures ∙ e)))

pub returns-else-s-w : goal.returns-else-s-w
unfolding same_known_of
returns-else-s-w c =
    let s = c.args.s.now in
    let w = c.args.w in
    rw (ne_eqb (length s) w.size c.if-s-w.false)
