-- `mend::mend` meets its contract. Assumes nothing.
use mathlib.Core.Path.{ap, ◌∙◌}
use Prim.Native.Nat.{ℕ}
use lib.ListN.{length, replicate}
use Rattle.mend_law.specs.Mends.{refused, too_long, no_room, past_mending}
use Rattle.mend.proofs.Steps.{room-so, no-room-so, mended-so}
use Rattle.mend.proofs.mend.Goals as goal

pub returns-then-text-gt-LONGEST_TEXT : goal.returns-then-text-gt-LONGEST_TEXT
returns-then-text-gt-LONGEST_TEXT c =
    refused 1 1 (too_long c.if-text-gt-LONGEST_TEXT.true) c.refused.ensures.value c.refused.ensures.list_after c.refused.ensures.out_after

pub returns-then-rows_of-lines_in : goal.returns-then-rows_of-lines_in
returns-then-rows_of-lines_in c =
    let A = c.args in
    refused 1 11 (no_room c.if-text-gt-LONGEST_TEXT.false (no-room-so A.edition A.text.now A.list.now 0 _ _ c.rows_of.ensures c.lines_in.ensures c.if-rows_of-lines_in.true)) c.refused-then-rows_of-lines_in.ensures.value c.refused-then-rows_of-lines_in.ensures.list_after c.refused-then-rows_of-lines_in.ensures.out_after

pub returns-then-is_good : goal.returns-then-is_good
returns-then-is_good c =
    let A = c.args in
    let room = room-so A.edition A.text.now A.list.now 0 _ _ c.rows_of.ensures c.lines_in.ensures c.if-rows_of-lines_in.false in
    mended-so A.edition A.text.now A.list.now (length A.out.now) _ _ _ _ c.if-text-gt-LONGEST_TEXT.false room (c.is_good.ensures.good c.if-is_good.true) c.is_good.auto.list c.put_out.ensures

pub returns : goal.returns
returns c =
    let A = c.args in
    let room = room-so A.edition A.text.now A.list.now 0 _ _ c.rows_of.ensures c.lines_in.ensures c.if-rows_of-lines_in.false in
    refused 0 26 (past_mending c.if-text-gt-LONGEST_TEXT.false room (c.is_good.ensures.past c.if-is_good.false)) c.refused-2.ensures.value (c.refused-2.ensures.list_after ∙ ap (λ (n : ℕ). replicate n 0) c.is_good.auto.list) c.refused-2.ensures.out_after
